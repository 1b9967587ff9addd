-- An event of the device keeps the lines of a host's snoops in their places.
use Rattle.std.proofs.Common.{◌≡◌, ℕ, ◌+◌, Bool, true, false, List, [], ◌++◌, Option, None, Some, cond, refl, sym, ◌∙◌, ap, subst}
use Rattle.std.specs.Prelude.{is_some, option_and_then, ◌&&◌, ◌==◌}
use Rattle.std.specs.List.{list_any}
use Rattle.std.proofs.lemmas.Bool.{eq-eqb, eqb-true, false≢true, ne_eqb}
use Rattle.std.proofs.lemmas.List.{append-nil}
use Rattle.std.proofs.lemmas.Option.{none-some}
use Rattle.cxl_message.specs.declared.channels.Channel.{Channel}
use Rattle.cxl_message.specs.declared.events.Act.{Act}
use Rattle.cxl_message.specs.declared.events.Cause.{Cause}
use Rattle.cxl_message.specs.declared.events.Event.{Event}
use Rattle.cxl_message.specs.declared.events.Sends.{Sends}
use Rattle.cxl_message.specs.declared.identifiers.BiTag.{BiTag}
use Rattle.cxl_message.specs.declared.identifiers.Bytes64.{Bytes64}
use Rattle.cxl_message.specs.declared.identifiers.Line.{Line}
use Rattle.cxl_message.specs.declared.messages.Message.{Message}
use Rattle.cxl_message.specs.declared.opcodes.RspOp.{RspOp}
use Rattle.cxl_message.specs.Codes.{channel_eq}
use Rattle.cxl_message.specs.Messages.{channel_of, message_eq}
use Rattle.cxl_message.specs.Setup.{Configuration}
use Rattle.coherence_model.specs.Buffers.{buffered_writes, message_with}
use Rattle.coherence_model.specs.DeviceActs.{buffered_request, device_acts, shared_grant, snoop_message}
use Rattle.coherence_model.specs.DeviceTakes.{device_takes, is_answered_by}
use Rattle.coherence_model.specs.DeviceRows.{device_emission}
use Rattle.coherence_model.specs.DirectoryChanges.{directory}
use Rattle.coherence_model.specs.Emission.{Emission, nothing}
use Rattle.coherence_model.specs.Tasks.{Task}
use Rattle.cxl_message.specs.declared.opcodes.NdrOp.{NdrOp}
use Rattle.coherence_model.specs.Flight.{takes_on, without_taken}
use Rattle.coherence_model.specs.Memory.{memory}
use Rattle.coherence_model.specs.SentSnoops.{SentSnoop, is_asked, sent_snoop_after, sent_snoop_at, snoop_after_response, snoop_by_sends}
use Rattle.coherence_model.specs.Snoops.{Snoop}
use Rattle.coherence_lemmas.proofs.DeviceActs.{v3_serve-inv, v4_clean-inv, v5_start-inv, v6_evict-inv, v7_snoop-inv, v8_finish-inv, v9_return-inv}
use Rattle.coherence_lemmas.proofs.DeviceTakes.{v2_response-inv}
use Rattle.coherence_lemmas.proofs.Rows.{device_take-inv}
use Rattle.coherence_lemmas.proofs.TakesSendNothing.{device_takes_silent}
use Rattle.snoop_laws.proofs.Places.{AreSent, Placed}
use Rattle.snoop_laws.proofs.ResponseSteps.{placed_response}
use Rattle.snoop_laws.proofs.Sending.{credit_off, finish_off, one_off, one_on, other_host, sent_there, served_off}
use Rattle.snoop_laws.proofs.SnoopSteps.{placed_sent}

-- nothing new is in flight
pub none_sent : (asked : ℕ → Option SentSnoop) (bs more : List Message) (ss : List Snoop) (rs : List Message) → more ≡ [] → Placed asked bs ss rs → Placed asked (bs ++ more) ss rs
none_sent asked bs more ss rs none placed = subst (λ ms. Placed asked ms ss rs) (sym (ap (λ ms. bs ++ ms) none ∙ append-nil bs)) placed

none_from : {A : Type 0} (o : Option A) → is_some o ≡ false → o ≡ None
none_from None h = refl
none_from (Some x) h = absurd (false≢true (sym h))

module _ (setup : Configuration) (opening : List (Line × Bytes64)) (h : ℕ) (mine : List Event) (bs : List Message) (ss : List Snoop) (rs : List Message) where
  abbrev asked : ℕ → Option SentSnoop
  asked f = sent_snoop_at h f mine

  -- a message that is no answer changes no snoop
  other_taken : (own on : Bool) (m : Message) → on ≡ false → Placed asked bs ss rs → Placed (λ f. cond own (asked f) (asked f)) bs ss (without_taken (cond (own && on) (Some m) None) rs)
  other_taken true true m off placed = absurd (false≢true (sym off))
  other_taken true false m off placed = placed
  other_taken false on m off placed = placed

  answer_taken : (own : Bool) (k : ℕ) (op : RspOp) (bitag : BiTag) (low : ℕ) (q : SentSnoop) → (k == h) ≡ own → AreSent asked → Placed asked bs ss rs → sent_snoop_at k bitag.0 mine ≡ Some q
      → is_answered_by op (bitag.0 + low) q ≡ true → (own ≡ true → list_any (message_eq (Message.BiRsp op bitag low)) rs ≡ true)
      → Placed (λ f. cond own (cond (bitag.0 == f) (option_and_then (snoop_after_response op (f + low)) (asked f)) (asked f)) (asked f)) bs ss (without_taken (cond (own && true) (Some (Message.BiRsp op bitag low)) None) rs)
  answer_taken true k op bitag low q at sent placed found answered there =
      let is : asked bitag.0 ≡ Some q = subst (λ g. sent_snoop_at g bitag.0 mine ≡ Some q) (eqb-true k h at) found in
      placed_response asked (λ f. cond (bitag.0 == f) (option_and_then (snoop_after_response op (f + low)) (asked f)) (asked f)) bs ss rs op bitag low q sent placed (there refl) is answered
      (ap (λ b. cond b (option_and_then (snoop_after_response op (bitag.0 + low)) (asked bitag.0)) (asked bitag.0)) (eq-eqb bitag.0 bitag.0 refl) ∙ ap (option_and_then (snoop_after_response op (bitag.0 + low))) is)
      (λ g differ. ap (λ b. cond b (option_and_then (snoop_after_response op (g + low)) (asked g)) (asked g)) (ne_eqb bitag.0 g differ))
  answer_taken false k op bitag low q at sent placed found answered there = placed

  taken_by : (k : ℕ) (m : Message) (sends : Sends) (w : Emission) → device_takes setup k m mine ≡ Some w → AreSent asked → ((n : Message) → takes_on h Channel.BiRsp (Cause.Take k m) ≡ Some n → list_any (message_eq n) rs ≡ true)
      → Placed asked bs ss rs → Placed (λ f. sent_snoop_after h f (Cause.Take k m) sends (asked f)) bs ss (without_taken (takes_on h Channel.BiRsp (Cause.Take k m)) rs)
  taken_by k (Message.Req op meta snp tag line) sends w row sent there placed = other_taken (k == h) false (Message.Req op meta snp tag line) refl placed
  taken_by k (Message.MemWr meta snp tag line bytes) sends w row sent there placed = other_taken (k == h) false (Message.MemWr meta snp tag line bytes) refl placed
  taken_by k (Message.BiConflict tag) sends w row sent there placed = other_taken (k == h) false (Message.BiConflict tag) refl placed
  taken_by k (Message.BiRsp op bitag low) sends w row sent there placed =
      let inv = v2_response-inv op (bitag.0 + low) (sent_snoop_at k bitag.0 mine) w row in
      answer_taken (k == h) k op bitag low inv.q refl sent placed inv.asked inv.answers (λ own. there (Message.BiRsp op bitag low) (ap (λ b. cond (b && true) (Some (Message.BiRsp op bitag low)) None) own))
  taken_by k (Message.Ndr op tag) sends w row sent there placed = other_taken (k == h) false (Message.Ndr op tag) refl placed
  taken_by k (Message.MemData tag bytes) sends w row sent there placed = other_taken (k == h) false (Message.MemData tag bytes) refl placed
  taken_by k (Message.BiSnp op bitag line span) sends w row sent there placed = other_taken (k == h) false (Message.BiSnp op bitag line span) refl placed
  taken_by k (Message.Credit c) sends w row sent there placed = other_taken (k == h) (channel_eq (channel_of (Message.Credit c)) Channel.BiRsp) (Message.Credit c) (credit_off c).1 placed

  snooped : (own : Bool) (k : ℕ) (line : Line) (t : Task) (sends : Sends) → (k == h) ≡ own → is_asked k line.0 mine ≡ false → sends ≡ Sends.One (record { host = k; message = snoop_message line.0 t })
      → Placed asked bs ss rs → Placed (λ f. cond (own && (line.0 == f)) (snoop_by_sends sends) (asked f)) (bs ++ sent_there h Channel.BiSnp sends) ss rs
  snooped true k line t sends at unasked emits placed =
      let later : ℕ → Option SentSnoop = λ f. cond (line.0 == f) (snoop_by_sends sends) (asked f) in
      subst (λ ms. Placed later (bs ++ ms) ss rs) (sym (ap (sent_there h Channel.BiSnp) emits ∙ one_on h k Channel.BiSnp (snoop_message line.0 t) at refl))
      (placed_sent asked later line.0 t (none_from (asked line.0) (subst (λ g. is_asked g line.0 mine ≡ false) (eqb-true k h at) unasked))
      (ap (λ b. cond b (snoop_by_sends sends) (asked line.0)) (eq-eqb line.0 line.0 refl) ∙ ap snoop_by_sends emits)
      (λ f differ. ap (λ b. cond b (snoop_by_sends sends) (asked f)) (ne_eqb line.0 f differ)) bs ss rs placed)
  snooped false k line t sends at unasked emits placed =
      none_sent asked bs (sent_there h Channel.BiSnp sends) ss rs (ap (sent_there h Channel.BiSnp) emits ∙ other_host h k Channel.BiSnp (snoop_message line.0 t) at) placed

  silent : (sends : Sends) (w x : Emission) → sends ≡ w.sends → w ≡ x → sent_there h Channel.BiSnp x.sends ≡ [] → Placed asked bs ss rs → Placed asked (bs ++ sent_there h Channel.BiSnp sends) ss rs
  silent sends w x same emits off placed =
      none_sent asked bs (sent_there h Channel.BiSnp sends) ss rs (ap (sent_there h Channel.BiSnp) (same ∙ ap (λ (y : Emission). y.sends) emits) ∙ off) placed

  act_by : (act : Act) (sends : Sends) (w : Emission) → device_acts setup opening act mine ≡ Some w → sends ≡ w.sends → Placed asked bs ss rs
      → Placed (λ f. sent_snoop_after h f (Cause.Act act) sends (asked f)) (bs ++ sent_there h Channel.BiSnp sends) ss rs
  act_by (Act.Conflict _) sends w row same placed = absurd (none-some w row)
  act_by (Act.WriteBack _) sends w row same placed = absurd (none-some w row)
  act_by (Act.Answer _) sends w row same placed = absurd (none-some w row)
  act_by (Act.AnswerBlock _) sends w row same placed = absurd (none-some w row)
  act_by (Act.HostReturn _) sends w row same placed = absurd (none-some w row)
  act_by (Act.Serve k tag) sends w row same placed =
      let inv = v3_serve-inv k (message_with tag.0 (buffered_writes k mine)) w row in
      silent sends w _ same inv.emits (one_off h k Channel.BiSnp inv.answer (served_off inv.m inv.answer inv.answers)) placed
  act_by (Act.Clean k tag) sends w row same placed =
      let inv = v4_clean-inv k (buffered_request k tag mine) (directory setup mine) w row in
      silent sends w _ same inv.emits (one_off h k Channel.BiSnp (Message.Ndr NdrOp.Cmp inv.r.tag) refl) placed
  act_by (Act.Start k tag) sends w row same placed = silent sends w nothing same (v5_start-inv setup k (buffered_request k tag mine) (directory setup mine) mine w row).emits refl placed
  act_by (Act.Evict k tag) sends w row same placed = silent sends w nothing same (v6_evict-inv setup k (buffered_request k tag mine) (directory setup mine) mine w row).emits refl placed
  act_by (Act.Snoop k line) sends w row same placed =
      let inv = v7_snoop-inv k line.0 ((directory setup mine).task line.0) (directory setup mine) mine w row in
      snooped (k == h) k line inv.t sends refl inv.unasked (same ∙ ap (λ (y : Emission). y.sends) inv.emits) placed
  act_by (Act.Finish line) sends w row same placed =
      let inv = v8_finish-inv setup opening line.0 ((directory setup mine).task line.0) (directory setup mine) mine w row in
      silent sends w _ same inv.emits (finish_off h inv.t.purpose (shared_grant setup line.0 inv.t (directory setup mine)) inv.t.host inv.t.tag (memory opening line.0 mine)) placed
  act_by (Act.DeviceReturn k c) sends w row same placed =
      silent sends w _ same (v9_return-inv k c mine w row).emits (one_off h k Channel.BiSnp (Message.Credit c) (credit_off c).0) placed

  -- an event of the device keeps the places
  pub device_event : (cause : Cause) (sends : Sends) (w : Emission) → device_emission setup opening cause mine ≡ Some w → sends ≡ w.sends → AreSent asked
      → ((m : Message) → takes_on h Channel.BiRsp cause ≡ Some m → list_any (message_eq m) rs ≡ true) → Placed asked bs ss rs
      → Placed (λ f. sent_snoop_after h f cause sends (asked f)) (bs ++ sent_there h Channel.BiSnp sends) ss (without_taken (takes_on h Channel.BiRsp cause) rs)
  device_event (Cause.Op s i op) sends w row same sent there placed = absurd (none-some w row)
  device_event (Cause.Take k m) sends w row same sent there placed =
      let passed = (device_take-inv setup opening k m mine w row).same in
      none_sent (λ f. sent_snoop_after h f (Cause.Take k m) sends (asked f)) bs (sent_there h Channel.BiSnp sends) ss (without_taken (takes_on h Channel.BiRsp (Cause.Take k m)) rs)
      (ap (sent_there h Channel.BiSnp) (same ∙ device_takes_silent setup k m mine w passed)) (taken_by k m sends w passed sent there placed)
  device_event (Cause.Act act) sends w row same sent there placed = act_by act sends w row same placed
