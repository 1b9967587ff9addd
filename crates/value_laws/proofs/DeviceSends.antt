-- What the device's events leave of a line's value at a host: MemWr move from the channel to the buffer, and the MemData of a finished read comes from memory.
use Rattle.std.proofs.Common.{◌≡◌, ℕ, Bool, true, false, List, [], ◌∷◌, ◌++◌, Option, Some, None, cond, map, refl, sym, ◌∙◌, ap, subst}
use Rattle.std.specs.Prelude.{◌==◌}
use Rattle.std.proofs.lemmas.Bool.{and_parts, eqb-true}
use Rattle.std.proofs.lemmas.Option.{none-some, same_Some}
use Rattle.cxl_message.specs.declared.channels.Channel.{Channel}
use Rattle.cxl_message.specs.declared.events.Act.{Act}
use Rattle.cxl_message.specs.declared.events.Cause.{Cause}
use Rattle.cxl_message.specs.declared.events.Event.{Event}
use Rattle.cxl_message.specs.declared.events.Out.{Out}
use Rattle.cxl_message.specs.declared.events.Sends.{Sends}
use Rattle.cxl_message.specs.declared.identifiers.Bytes64.{Bytes64}
use Rattle.cxl_message.specs.declared.identifiers.Line.{Line}
use Rattle.cxl_message.specs.declared.messages.Message.{Message}
use Rattle.cxl_message.specs.declared.opcodes.NdrOp.{NdrOp}
use Rattle.cxl_message.specs.Setup.{Configuration}
use Rattle.coherence_lemmas.proofs.DeviceActs.{v3_serve-inv, v4_clean-inv, v5_start-inv, v6_evict-inv, v7_snoop-inv, v8_finish-inv, v9_return-inv}
use Rattle.coherence_lemmas.proofs.Rows.{device_take-inv}
use Rattle.coherence_lemmas.proofs.TakesSendNothing.{device_takes_silent}
use Rattle.coherence_model.specs.Buffers.{buffered_writes, message_with}
use Rattle.coherence_model.specs.DeviceActs.{buffered_request, device_acts, finish_emission, is_settled, served_by, shared_grant, snoop_message}
use Rattle.coherence_model.specs.DeviceRows.{device_emission}
use Rattle.coherence_model.specs.DirectoryChanges.{directory}
use Rattle.coherence_model.specs.Emission.{Emission}
use Rattle.coherence_model.specs.Flight.{is_on}
use Rattle.coherence_model.specs.Memory.{memory}
use Rattle.coherence_model.specs.Tasks.{Purpose, Task, is_eviction}
use Rattle.coherence_model.specs.Transactions.{Transaction, is_read}
use Rattle.coherence_model.specs.ValueFacts.{data_in}
use Rattle.request_laws.proofs.Each.{Each, each_append}
use Rattle.request_laws.proofs.Places.{on_channel}
use Rattle.value_laws.proofs.Has.{Brings, ReadsHave}

-- ---- what is sent on a channel

-- one message, by whether it goes there
sent_one_by : (P : Message → Type 0) (o : Out) (b : Bool) → (b ≡ true → P o.message) → Each P (map (λ (x : Out). x.message) (cond b (o ∷ []) []))
sent_one_by P o true holds = (holds refl, tt)
sent_one_by P o false holds = tt

-- what holds of the message that is sent, if it goes on the channel, holds of each that goes there
pub sent_alone : (P : Message → Type 0) (h : ℕ) (c : Channel) (o : Out) → (is_on h c o ≡ true → P o.message) → Each P (on_channel h c (Sends.One o))
sent_alone P h c o holds = sent_one_by P o (is_on h c o) holds

-- two messages, by whether each goes there
sent_two_by : (P : Message → Type 0) (o p : Out) (b d : Bool) → (b ≡ true → P o.message) → (d ≡ true → P p.message)
    → Each P (map (λ (x : Out). x.message) (cond b (o ∷ cond d (p ∷ []) []) (cond d (p ∷ []) [])))
sent_two_by P o p true true first second = (first refl, (second refl, tt))
sent_two_by P o p true false first second = (first refl, tt)
sent_two_by P o p false true first second = (second refl, tt)
sent_two_by P o p false false first second = tt

-- what holds of each of two messages that go on the channel holds of all that go there
pub sent_both : (P : Message → Type 0) (h : ℕ) (c : Channel) (o p : Out) → (is_on h c o ≡ true → P o.message) → (is_on h c p ≡ true → P p.message) → Each P (on_channel h c (Sends.Two o p))
sent_both P h c o p first second = sent_two_by P o p (is_on h c o) (is_on h c p) first second

-- a message that isn't MemData brings no bytes
brings_nothing : (tag : ℕ) (v : Bytes64) (m : Message) → data_in m ≡ None → Brings tag v m
brings_nothing tag v m none same b is = absurd (none-some b (sym none ∙ is))

-- the answer to a served message is no MemData
served_data : (m answer : Message) → served_by m ≡ Some answer → data_in answer ≡ None
served_data (Message.Req _ _ _ _ _) answer h = absurd (none-some answer h)
served_data (Message.MemWr _ _ tag _ _) answer h = ap data_in (sym (same_Some (Message.Ndr NdrOp.Cmp tag) answer h))
served_data (Message.BiConflict tag) answer h = ap data_in (sym (same_Some (Message.Ndr NdrOp.ConflictAck tag) answer h))
served_data (Message.BiRsp _ _ _) answer h = absurd (none-some answer h)
served_data (Message.Ndr _ _) answer h = absurd (none-some answer h)
served_data (Message.MemData _ _) answer h = absurd (none-some answer h)
served_data (Message.BiSnp _ _ _ _) answer h = absurd (none-some answer h)
served_data (Message.Credit _) answer h = absurd (none-some answer h)

-- ---- the data of a finished task

module _ (h tag : ℕ) (v : Bytes64) where
  -- one message that is no MemData
  quiet_one : (k : ℕ) (m : Message) → data_in m ≡ None → Each (Brings tag v) (on_channel h Channel.Drs (Sends.One (record { host = k; message = m })))
  quiet_one k m none = sent_alone (Brings tag v) h Channel.Drs (record { host = k; message = m }) (λ on. brings_nothing tag v m none)

  -- a grant and its MemData
  data_sent : (c : NdrOp) (host t : ℕ) (bytes : Bytes64) → (host ≡ h → (t == tag) ≡ true → bytes ≡ v)
      → Each (Brings tag v) (on_channel h Channel.Drs (Sends.Two (record { host = host; message = Message.Ndr c (record { 0 = t }) }) (record { host = host; message = Message.MemData (record { 0 = t }) bytes })))
  data_sent c host t bytes its =
      sent_both (Brings tag v) h Channel.Drs (record { host = host; message = Message.Ndr c (record { 0 = t }) }) (record { host = host; message = Message.MemData (record { 0 = t }) bytes })
      (λ on. brings_nothing tag v (Message.Ndr c (record { 0 = t })) refl)
      (λ on same b is. sym (same_Some bytes b is) ∙ its (eqb-true host h (and_parts (host == h) _ on).0) same)

  -- what a finished task sends
  finish_sent : (purpose : Purpose) (c : NdrOp) (host t : ℕ) (bytes : Bytes64) → (is_eviction purpose ≡ false → host ≡ h → (t == tag) ≡ true → bytes ≡ v) → Each (Brings tag v) (on_channel h Channel.Drs (finish_emission purpose c host t bytes).sends)
  finish_sent Purpose.SharedRead c host t bytes its = data_sent c host t bytes (its refl)
  finish_sent Purpose.OwningRead c host t bytes its = data_sent NdrOp.CmpE host t bytes (its refl)
  finish_sent Purpose.Invalidation c host t bytes its = quiet_one host (Message.Ndr NdrOp.CmpE (record { 0 = t })) refl
  finish_sent Purpose.Eviction c host t bytes its = tt

  -- ---- all rows of the device

  module _ (setup : Configuration) (opening : List (Line × Bytes64)) (dev : List Event) where
    -- each MemData that is sent has the bytes
    abbrev Sent : Sends → Type 0
    Sent sends = Each (Brings tag v) (on_channel h Channel.Drs sends)

    -- a finished task for this tag of the host sends these bytes
    abbrev Finishes : Act → Type 0
    Finishes act =
        (line : Line) (t : Task) → act ≡ Act.Finish line → (directory setup dev).task line.0 ≡ Some t → is_settled setup line.0 t (directory setup dev) dev ≡ true → is_eviction t.purpose ≡ false → t.host ≡ h → (t.tag == tag) ≡ true
        → memory opening line.0 dev ≡ v

    -- what a row emits is what is sent
    by_emission : (w x : Emission) (sends : Sends) → sends ≡ w.sends → w ≡ x → Sent x.sends → Sent sends
    by_emission w x sends sent is holds = subst Sent (sym (sent ∙ ap (λ (y : Emission). y.sends) is)) holds

    -- what each act sends
    act_sent : (act : Act) (w : Emission) (sends : Sends) → device_acts setup opening act dev ≡ Some w → sends ≡ w.sends → Finishes act → Sent sends
    act_sent (Act.Conflict line) w sends row sent its = absurd (none-some w row)
    act_sent (Act.WriteBack line) w sends row sent its = absurd (none-some w row)
    act_sent (Act.Answer line) w sends row sent its = absurd (none-some w row)
    act_sent (Act.AnswerBlock line) w sends row sent its = absurd (none-some w row)
    act_sent (Act.HostReturn c) w sends row sent its = absurd (none-some w row)
    act_sent (Act.Serve k t) w sends row sent its =
        let inv = v3_serve-inv k (message_with t.0 (buffered_writes k dev)) w row in by_emission w _ sends sent inv.emits (quiet_one k inv.answer (served_data inv.m inv.answer inv.answers))
    act_sent (Act.Clean k t) w sends row sent its =
        let inv = v4_clean-inv k (buffered_request k t dev) (directory setup dev) w row in by_emission w _ sends sent inv.emits (quiet_one k (Message.Ndr NdrOp.Cmp inv.r.tag) refl)
    act_sent (Act.Start k t) w sends row sent its = let inv = v5_start-inv setup k (buffered_request k t dev) (directory setup dev) dev w row in by_emission w _ sends sent inv.emits tt
    act_sent (Act.Evict k t) w sends row sent its = let inv = v6_evict-inv setup k (buffered_request k t dev) (directory setup dev) dev w row in by_emission w _ sends sent inv.emits tt
    act_sent (Act.Snoop k line) w sends row sent its =
        let inv = v7_snoop-inv k line.0 ((directory setup dev).task line.0) (directory setup dev) dev w row in by_emission w _ sends sent inv.emits (quiet_one k (snoop_message line.0 inv.t) refl)
    act_sent (Act.Finish line) w sends row sent its =
        let inv = v8_finish-inv setup opening line.0 ((directory setup dev).task line.0) (directory setup dev) dev w row in
        by_emission w _ sends sent inv.emits
        (finish_sent inv.t.purpose (shared_grant setup line.0 inv.t (directory setup dev)) inv.t.host inv.t.tag (memory opening line.0 dev) (its line inv.t refl inv.found inv.settled))
    act_sent (Act.DeviceReturn k c) w sends row sent its = let inv = v9_return-inv k c dev w row in by_emission w _ sends sent inv.emits (quiet_one k (Message.Credit c) refl)

    -- what each event of the device sends
    pub device_sent : (cause : Cause) (w : Emission) (sends : Sends) → device_emission setup opening cause dev ≡ Some w → sends ≡ w.sends → ((act : Act) → cause ≡ Cause.Act act → Finishes act) → Sent sends
    device_sent (Cause.Op s i op) w sends row sent its = absurd (none-some w row)
    device_sent (Cause.Take k m) w sends row sent its = subst Sent (sym (sent ∙ device_takes_silent setup k m dev w (device_take-inv setup opening k m dev w row).same)) tt
    device_sent (Cause.Act act) w sends row sent its = act_sent act w sends row sent (its act refl)

-- more MemData in flight
pub reads_sent : (v : Bytes64) (o : Option Transaction) (drs xs : List Message) → ReadsHave v o drs → ((x : Transaction) → o ≡ Some x → is_read x.kind ≡ true → Each (Brings x.tag v) xs) → ReadsHave v o (drs ++ xs)
reads_sent v o drs xs old more = λ x there read.
    let had = old x there read in
    record { flying = each_append (Brings x.tag v) drs xs had.flying (more x there read); taken = had.taken }
