-- What an event of a host does to what the host adds to the weight, against what it takes and sends.
use Rattle.std.proofs.Common.{◌≡◌, ℕ, ◌+◌, ◌-◌, ◌*◌, ◌≤◌, Bool, true, false, List, [], ◌∷◌, Some, None, cond, filter, length, sum_by, refl, sym, ◌∙◌, ap, subst, arith}
use Rattle.std.specs.Prelude.{is_some, ◌&&◌, ◌==◌}
use Rattle.std.specs.Option.{option_len}
use Rattle.std.proofs.lemmas.Bool.{and_from, eq-eqb, false≢true}
use Rattle.std.proofs.lemmas.Option.{none-some}
use Rattle.cxl_message.specs.declared.channels.Channel.{Channel}
use Rattle.cxl_message.specs.declared.events.Act.{Act}
use Rattle.cxl_message.specs.declared.events.Cause.{Cause}
use Rattle.cxl_message.specs.declared.events.Event.{Event}
use Rattle.cxl_message.specs.declared.events.Op.{Op}
use Rattle.cxl_message.specs.declared.events.Out.{Out}
use Rattle.cxl_message.specs.declared.events.Sends.{Sends}
use Rattle.cxl_message.specs.declared.identifiers.Bytes64.{Bytes64}
use Rattle.cxl_message.specs.declared.identifiers.Line.{Line}
use Rattle.cxl_message.specs.declared.messages.Message.{Message}
use Rattle.cxl_message.specs.declared.opcodes.Meta.{Meta}
use Rattle.cxl_message.specs.declared.opcodes.ReqOp.{ReqOp}
use Rattle.cxl_message.specs.declared.opcodes.SnpType.{SnpType}
use Rattle.cxl_message.specs.Channels.{credit_channel}
use Rattle.cxl_message.specs.Codes.{channel_eq}
use Rattle.cxl_message.specs.Events.{outs}
use Rattle.cxl_message.specs.Messages.{channel_of, message_eq}
use Rattle.cxl_message.specs.Setup.{Configuration}
use Rattle.coherence_model.specs.Cache.{copy, is_modified}
use Rattle.coherence_model.specs.Credits.{held_count, is_credit_for}
use Rattle.coherence_model.specs.Emission.{Emission}
use Rattle.coherence_model.specs.HostActs.{host_returns}
use Rattle.coherence_model.specs.HostOperations.{eviction_message, request_message}
use Rattle.coherence_model.specs.HostRows.{host_emission}
use Rattle.coherence_model.specs.Runs.{IsRun}
use Rattle.coherence_model.specs.Snoops.{buffered_snoops, host_owed, is_whole_block}
use Rattle.coherence_model.specs.Traces.{events_of}
use Rattle.coherence_model.specs.Weight.{host_weight, is_operation, message_weight, snoop_weight}
use Rattle.coherence_lemmas.proofs.HostActs.{h10_return-inv}
use Rattle.coherence_lemmas.proofs.HostTakes.{h4_snoop-inv}
use Rattle.credit_laws.proofs.Laws.{buffered_and_owed_are_held}
use Rattle.request_laws.proofs.HostOperations.{Evicts, Hits, Operated, Requests, operated}
use Rattle.request_laws.proofs.HostTakes.{answer_row, block_row, conflict_row, take_row, takes_send_nothing, write_back_row}
use Rattle.step_laws.proofs.Counts.{each_find}
use Rattle.weight_laws.proofs.FlightWeights.{sent_weight, took}
use Rattle.weight_laws.proofs.Held.{host_held, host_returns_now, host_takes_now}
use Rattle.progress_laws.proofs.SomeLeft.{HasLine, held_have_lines}
use Rattle.weight_laws.proofs.StageWeights.{answer_weighs, block_weighs, conflict_weighs, lines_weight, lines_weight_after, ndr_weighs, snoop_weighs, snoops_weigh, write_back_weighs}

-- what a host adds: two for each message that it holds, and its snooped lines
pub host_weight_is :
    (setup : Configuration) (opening : List (Line × Bytes64)) (h : ℕ) (t : List Event) → IsRun setup opening t
    → host_weight setup h (events_of h t) ≡ 2 * host_held h (events_of h t) + lines_weight setup (events_of h t)
host_weight_is setup opening h t run =
    let mine : List Event = events_of h t in
    let ndr : 0 + host_owed h Channel.Ndr mine ≡ held_count h Channel.Ndr mine = buffered_and_owed_are_held setup opening t run h Channel.Ndr refl in
    let drs : 0 + host_owed h Channel.Drs mine ≡ held_count h Channel.Drs mine = buffered_and_owed_are_held setup opening t run h Channel.Drs refl in
    let snoops : length (buffered_snoops mine) + host_owed h Channel.BiSnp mine ≡ held_count h Channel.BiSnp mine = buffered_and_owed_are_held setup opening t run h Channel.BiSnp refl in
    let lines = snoops_weigh setup mine in
    sums (host_owed h Channel.Ndr mine) (host_owed h Channel.Drs mine) (host_owed h Channel.BiSnp mine) (length (buffered_snoops mine)) _ _ _ (sum_by (snoop_weight setup mine) (buffered_snoops mine)) (lines_weight setup mine) ndr drs snoops lines
  where
    sums : (a b c n x y z s l : ℕ) → 0 + a ≡ x → 0 + b ≡ y → n + c ≡ z → s ≡ 2 * n + l → 2 * (0 + a + b + c) + s ≡ 2 * (x + y + z) + l
    sums a b c n x y z s l ex ey ez es = omega arith

-- what is taken and sent, and what the lines weigh, against what they weighed
abbrev pub HostWeighs : Configuration → ℕ → Cause → List Event → Sends → ℕ → ℕ → Type 0
HostWeighs setup h cause mine sends d u =
    lines_weight_after setup cause mine + 2 * host_takes_now h cause + sent_weight setup.hosts (outs sends) + d ≤ lines_weight setup mine + 2 * host_returns_now h sends + took setup.hosts cause + u

-- ---- operations

request_weighs : (hosts : ℕ) (op : Op) (tag : ℕ) → message_weight hosts (request_message op tag) ≡ 108 * hosts - 11
request_weighs hosts (Op.Load line) tag = refl
request_weighs hosts (Op.Word line place value) tag = refl
request_weighs hosts (Op.Whole line bytes) tag = refl

eviction_weighs : (setup : Configuration) (v : ℕ) (mine : List Event) (tag : ℕ) → message_weight setup.hosts (eviction_message setup v mine tag) ≡ 7
eviction_weighs setup v mine tag = by_copy (is_modified setup v mine)
  where
    by_copy : (b : Bool) → message_weight setup.hosts (cond b (Message.MemWr Meta.Invalid SnpType.NoOp (record { 0 = tag }) (record { 0 = v }) (copy setup v mine).bytes)
        (Message.Req ReqOp.MemClnEvct Meta.Invalid SnpType.NoOp (record { 0 = tag }) (record { 0 = v }))) ≡ 7
    by_copy true = refl
    by_copy false = refl

operation_sends : (setup : Configuration) → 1 ≤ setup.hosts → (h : ℕ) (op : Op) (mine : List Event) (sends : Sends) → Operated setup h op mine sends → sent_weight setup.hosts (outs sends) ≤ 108 * setup.hosts - 4
operation_sends setup some h op mine sends (Hits none) = subst (λ s. sent_weight setup.hosts (outs s) ≤ 108 * setup.hosts - 4) (sym none) (omega arith)
operation_sends setup some h op mine sends (Requests one) =
    let request = request_weighs setup.hosts op one.t in
    subst (λ s. sent_weight setup.hosts (outs s) ≤ 108 * setup.hosts - 4) (sym one.sent) (sum_one _ (message_weight setup.hosts (request_message op one.t)) request)
  where
    sum_one : (n w : ℕ) → w ≡ 108 * n - 11 → 0 + w ≤ 108 * n - 4
    sum_one n w e = omega arith
operation_sends setup some h op mine sends (Evicts two) =
    let request = request_weighs setup.hosts op two.u in
    let eviction = eviction_weighs setup two.v mine two.t in
    subst (λ s. sent_weight setup.hosts (outs s) ≤ 108 * setup.hosts - 4) (sym two.sent)
    (sum_two setup.hosts some (message_weight setup.hosts (eviction_message setup two.v mine two.t)) (message_weight setup.hosts (request_message op two.u)) eviction request)
  where
    sum_two : (n : ℕ) → 1 ≤ n → (v w : ℕ) → v ≡ 7 → w ≡ 108 * n - 11 → 0 + v + w ≤ 108 * n - 4
    sum_two n more v w e f = omega arith

-- ---- takes

-- how many of the host's messages a take takes: one at most
ndr_taken : (h k : ℕ) (m : Message) → channel_of m ≡ Channel.Ndr → host_takes_now h (Cause.Take k m) ≤ 1
ndr_taken h k m on = subst (λ c. option_len (cond ((k == h) && channel_eq c Channel.Ndr) (Some m) None) + option_len (cond ((k == h) && channel_eq c Channel.Drs) (Some m) None) + option_len (cond ((k == h) && channel_eq c Channel.BiSnp) (Some m) None) ≤ 1) (sym on) (by_host (k == h))
  where
    by_host : (b : Bool) → option_len (cond (b && true) (Some m) None) + option_len (cond (b && false) (Some m) None) + option_len (cond (b && false) (Some m) None) ≤ 1
    by_host true = omega arith
    by_host false = omega arith

drs_taken : (h k : ℕ) (m : Message) → channel_of m ≡ Channel.Drs → host_takes_now h (Cause.Take k m) ≤ 1
drs_taken h k m on = subst (λ c. option_len (cond ((k == h) && channel_eq c Channel.Ndr) (Some m) None) + option_len (cond ((k == h) && channel_eq c Channel.Drs) (Some m) None) + option_len (cond ((k == h) && channel_eq c Channel.BiSnp) (Some m) None) ≤ 1) (sym on) (by_host (k == h))
  where
    by_host : (b : Bool) → option_len (cond (b && false) (Some m) None) + option_len (cond (b && true) (Some m) None) + option_len (cond (b && false) (Some m) None) ≤ 1
    by_host true = omega arith
    by_host false = omega arith

snoop_taken : (h k : ℕ) (m : Message) → channel_of m ≡ Channel.BiSnp → host_takes_now h (Cause.Take k m) ≤ 1
snoop_taken h k m on = subst (λ c. option_len (cond ((k == h) && channel_eq c Channel.Ndr) (Some m) None) + option_len (cond ((k == h) && channel_eq c Channel.Drs) (Some m) None) + option_len (cond ((k == h) && channel_eq c Channel.BiSnp) (Some m) None) ≤ 1) (sym on) (by_host (k == h))
  where
    by_host : (b : Bool) → option_len (cond (b && false) (Some m) None) + option_len (cond (b && false) (Some m) None) + option_len (cond (b && true) (Some m) None) ≤ 1
    by_host true = omega arith
    by_host false = omega arith

-- no Credit is one of them
credit_by : (b : Bool) (c : Channel) (m : Message) → option_len (cond (b && channel_eq (credit_channel c) Channel.Ndr) (Some m) None) + option_len (cond (b && channel_eq (credit_channel c) Channel.Drs) (Some m) None) + option_len (cond (b && channel_eq (credit_channel c) Channel.BiSnp) (Some m) None) ≡ 0
credit_by true Channel.Req m = refl
credit_by true Channel.Rwd m = refl
credit_by true Channel.BiRsp m = refl
credit_by true Channel.Ndr m = refl
credit_by true Channel.Drs m = refl
credit_by true Channel.BiSnp m = refl
credit_by true Channel.CreditUp m = refl
credit_by true Channel.CreditDown m = refl
credit_by false c m = refl

-- the weights of a take, which sends nothing
silent : (setup : Configuration) (h : ℕ) (cause : Cause) (mine : List Event) (sends : Sends) (d u : ℕ) → sends ≡ Sends.Nothing → HostWeighs setup h cause mine Sends.Nothing d u → HostWeighs setup h cause mine sends d u
silent setup h cause mine sends d u none weighs = subst (λ s. HostWeighs setup h cause mine s d u) (sym none) weighs

take_weighs : (setup : Configuration) (h k : ℕ) (m : Message) (mine : List Event) (w : Emission) (sends : Sends) → host_emission setup h (Cause.Take k m) mine ≡ Some w → sends ≡ w.sends → HostWeighs setup h (Cause.Take k m) mine sends 1 0
take_weighs setup h k (Message.Req op meta snp tag line) mine w sends row sent = absurd (none-some w (take_row setup h (Message.Req op meta snp tag line) mine w row))
take_weighs setup h k (Message.MemWr meta snp tag line bytes) mine w sends row sent = absurd (none-some w (take_row setup h (Message.MemWr meta snp tag line bytes) mine w row))
take_weighs setup h k (Message.BiConflict tag) mine w sends row sent = absurd (none-some w (take_row setup h (Message.BiConflict tag) mine w row))
take_weighs setup h k (Message.BiRsp op bitag low) mine w sends row sent = absurd (none-some w (take_row setup h (Message.BiRsp op bitag low) mine w row))
take_weighs setup h k (Message.Ndr op tag) mine w sends row sent =
    let lines = ndr_weighs setup k op tag mine in
    let one = ndr_taken h k (Message.Ndr op tag) refl in
    silent setup h (Cause.Take k (Message.Ndr op tag)) mine sends 1 0 (sent ∙ takes_send_nothing setup h (Message.Ndr op tag) mine w (take_row setup h (Message.Ndr op tag) mine w row)) (sums _ _ _ lines one)
  where
    sums : (l' t l : ℕ) → l' ≤ l → t ≤ 1 → l' + 2 * t + 0 + 1 ≤ l + 2 * 0 + 3 + 0
    sums l' t l less few = omega arith
take_weighs setup h k (Message.MemData tag bytes) mine w sends row sent =
    let one = drs_taken h k (Message.MemData tag bytes) refl in
    silent setup h (Cause.Take k (Message.MemData tag bytes)) mine sends 1 0 (sent ∙ takes_send_nothing setup h (Message.MemData tag bytes) mine w (take_row setup h (Message.MemData tag bytes) mine w row)) (sums _ _ one)
  where
    sums : (l t : ℕ) → t ≤ 1 → l + 2 * t + 0 + 1 ≤ l + 2 * 0 + 3 + 0
    sums l t few = omega arith
take_weighs setup h k (Message.BiSnp op bitag line span) mine w sends row sent =
    let bare = take_row setup h (Message.BiSnp op bitag line span) mine w row in
    let lines = snoop_weighs setup k op bitag line span mine (h4_snoop-inv line.0 span mine w bare).unsnooped in
    let one = snoop_taken h k (Message.BiSnp op bitag line span) refl in
    silent setup h (Cause.Take k (Message.BiSnp op bitag line span)) mine sends 1 0 (sent ∙ takes_send_nothing setup h (Message.BiSnp op bitag line span) mine w bare) (sums _ _ _ _ lines one)
  where
    sums : (l' t l n : ℕ) → l' ≤ l + 20 * n → t ≤ 1 → l' + 2 * t + 0 + 1 ≤ l + 2 * 0 + (3 + 20 * n) + 0
    sums l' t l n less few = omega arith
take_weighs setup h k (Message.Credit c) mine w sends row sent =
    let none = credit_by (k == h) c (Message.Credit c) in
    silent setup h (Cause.Take k (Message.Credit c)) mine sends 1 0 (sent ∙ takes_send_nothing setup h (Message.Credit c) mine w (take_row setup h (Message.Credit c) mine w row)) (sums _ _ none)
  where
    sums : (l t : ℕ) → t ≡ 0 → l + 2 * t + 0 + 1 ≤ l + 2 * 0 + 1 + 0
    sums l t e = omega arith

-- ---- acts

-- one message is sent
one_sent : (setup : Configuration) (h : ℕ) (act : Act) (mine : List Event) (m : Message) (sends : Sends) → sends ≡ Sends.One (record { host = h; message = m })
    → lines_weight_after setup (Cause.Act act) mine + message_weight setup.hosts m + 1 ≤ lines_weight setup mine → HostWeighs setup h (Cause.Act act) mine sends 1 0
one_sent setup h act mine m sends is less =
    subst (λ s. HostWeighs setup h (Cause.Act act) mine s 1 0) (sym is) (sums _ _ _ (host_returns_now h (Sends.One (record { host = h; message = m }))) less)
  where
    sums : (l' w l r : ℕ) → l' + w + 1 ≤ l → l' + 2 * (0 + 0 + 0) + (0 + w) + 1 ≤ l + 2 * r + 0 + 0
    sums l' w l r h = omega arith

-- a Credit is sent
credit_returned : (h : ℕ) (c : Channel) → message_eq (Message.Credit c) (Message.Credit c) ≡ true → length {A = Out} (filter (is_credit_for h c) (record { host = h; message = Message.Credit c } ∷ [])) ≡ 1
credit_returned h c same = ap (λ b. length {A = Out} (cond b (record { host = h; message = Message.Credit c } ∷ []) [])) (and_from (h == h) (message_eq (Message.Credit c) (Message.Credit c)) (eq-eqb h h refl) same)

some_returned : (h : ℕ) (c : Channel) → host_returns c ≡ true → 1 ≤ host_returns_now h (Sends.One (record { host = h; message = Message.Credit c }))
some_returned h Channel.Req is = absurd (false≢true is)
some_returned h Channel.Rwd is = absurd (false≢true is)
some_returned h Channel.BiRsp is = absurd (false≢true is)
some_returned h Channel.Ndr is = let one = credit_returned h Channel.Ndr refl in omega arith
some_returned h Channel.Drs is = let one = credit_returned h Channel.Drs refl in omega arith
some_returned h Channel.BiSnp is = let one = credit_returned h Channel.BiSnp refl in omega arith
some_returned h Channel.CreditUp is = absurd (false≢true is)
some_returned h Channel.CreditDown is = absurd (false≢true is)

act_weighs : (setup : Configuration) (h : ℕ) (act : Act) (mine : List Event) (w : Emission) (sends : Sends) → host_emission setup h (Cause.Act act) mine ≡ Some w → sends ≡ w.sends → HostWeighs setup h (Cause.Act act) mine sends 1 0
act_weighs setup h (Act.Conflict line) mine w sends row sent =
    let r = conflict_row setup h line.0 mine w row in
    let less = conflict_weighs setup line.0 mine r.snooped r.new in
    one_sent setup h (Act.Conflict line) mine _ sends (sent ∙ r.sent) (omega arith)
act_weighs setup h (Act.WriteBack line) mine w sends row sent =
    let r = write_back_row setup h line.0 mine w row in
    let less = write_back_weighs setup line.0 mine (ap is_some r.there) r.ready in
    one_sent setup h (Act.WriteBack line) mine _ sends (sent ∙ r.sent) (omega arith)
act_weighs setup h (Act.Answer line) mine w sends row sent =
    let r = answer_row setup h line.0 mine w row in
    let less = answer_weighs setup line.0 mine (ap is_some r.there) in
    one_sent setup h (Act.Answer line) mine _ sends (sent ∙ r.sent) (omega arith)
act_weighs setup h (Act.AnswerBlock line) mine w sends row sent =
    let r = block_row setup h line.0 mine w row in
    let some = (each_find HasLine (is_whole_block line.0) (buffered_snoops mine) (held_have_lines mine) r.s r.there).0 in
    let less = block_weighs setup line.0 mine r.s r.there some in
    one_sent setup h (Act.AnswerBlock line) mine _ sends (sent ∙ r.sent) (omega arith)
act_weighs setup h (Act.HostReturn c) mine w sends row sent =
    let inv = h10_return-inv h c mine w row in
    let some = some_returned h c inv.returns in
    subst (λ s. HostWeighs setup h (Cause.Act (Act.HostReturn c)) mine s 1 0) (sym (sent ∙ ap (λ (x : Emission). x.sends) inv.emits)) (sums _ _ some)
  where
    sums : (l r : ℕ) → 1 ≤ r → l + 2 * (0 + 0 + 0) + (0 + 1) + 1 ≤ l + 2 * r + 0 + 0
    sums l r some = omega arith
act_weighs setup h (Act.Serve _ _) mine w sends row sent = absurd (none-some w row)
act_weighs setup h (Act.Clean _ _) mine w sends row sent = absurd (none-some w row)
act_weighs setup h (Act.Start _ _) mine w sends row sent = absurd (none-some w row)
act_weighs setup h (Act.Evict _ _) mine w sends row sent = absurd (none-some w row)
act_weighs setup h (Act.Snoop _ _) mine w sends row sent = absurd (none-some w row)
act_weighs setup h (Act.Finish _) mine w sends row sent = absurd (none-some w row)
act_weighs setup h (Act.DeviceReturn _ _) mine w sends row sent = absurd (none-some w row)

-- by how much a cause must lower the weight, and may raise it
abbrev pub lowers : Cause → ℕ
lowers cause = cond (is_operation cause) 0 1

abbrev pub raises : ℕ → Cause → ℕ
raises hosts cause = cond (is_operation cause) (108 * hosts - 4) 0

-- each row of a host
pub host_row_weighs : (setup : Configuration) → 1 ≤ setup.hosts → (h : ℕ) (cause : Cause) (mine : List Event) (w : Emission) (sends : Sends) → host_emission setup h cause mine ≡ Some w → sends ≡ w.sends
    → HostWeighs setup h cause mine sends (lowers cause) (raises setup.hosts cause)
host_row_weighs setup some h (Cause.Op s i op) mine w sends row sent =
    let weighs = operation_sends setup some h op mine sends (subst (Operated setup h op mine) (sym sent) (operated setup h s i op mine w row)) in
    sums _ _ (host_returns_now h sends) _ weighs
  where
    sums : (l s r b : ℕ) → s ≤ b → l + 2 * (0 + 0 + 0) + s + 0 ≤ l + 2 * r + 0 + b
    sums l s r b less = omega arith
host_row_weighs setup some h (Cause.Take k m) mine w sends row sent = take_weighs setup h k m mine w sends row sent
host_row_weighs setup some h (Cause.Act act) mine w sends row sent = act_weighs setup h act mine w sends row sent
