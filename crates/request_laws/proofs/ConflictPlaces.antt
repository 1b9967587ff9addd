-- A tag's conflict is in exactly one place: its BIConflict in flight or buffered, or its BI-ConflictAck in flight.
use Rattle.std.proofs.Common.{◌≡◌, ℕ, ◌+◌, Bool, true, false, List, [], ◌∷◌, ◌++◌, Some, None, cond, count_by, filter, map, refl, sym, ◌∙◌, ap, subst, arith}
use Rattle.std.specs.Prelude.{nat_le, not, option_and_then, ◌&&◌, ◌==◌, ◌||◌}
use Rattle.std.specs.List.{list_any}
use Rattle.std.proofs.lemmas.Bool.{eqb-true, false≢true, or_parts}
use Rattle.std.proofs.lemmas.Option.{none-some, same_Some}
use Rattle.cxl_message.specs.declared.channels.Channel.{Channel}
use Rattle.cxl_message.specs.declared.events.Act.{Act}
use Rattle.cxl_message.specs.declared.events.Cause.{Cause}
use Rattle.cxl_message.specs.declared.events.Event.{Event}
use Rattle.cxl_message.specs.declared.events.Out.{Out}
use Rattle.cxl_message.specs.declared.events.Sends.{Sends}
use Rattle.cxl_message.specs.declared.identifiers.Bytes64.{Bytes64}
use Rattle.cxl_message.specs.declared.identifiers.Line.{Line}
use Rattle.cxl_message.specs.declared.identifiers.Tag.{Tag}
use Rattle.cxl_message.specs.declared.messages.Message.{Message}
use Rattle.cxl_message.specs.declared.opcodes.NdrOp.{NdrOp}
use Rattle.cxl_message.specs.Codes.{channel_eq}
use Rattle.cxl_message.specs.Events.{outs}
use Rattle.cxl_message.specs.Messages.{acknowledges, channel_of, has_tag, is_conflict_ack}
use Rattle.cxl_message.specs.Setup.{Configuration}
use Rattle.coherence_model.specs.Buffers.{buffered_requests, buffered_writes, message_with, without_tag, without_used, writes_after}
use Rattle.coherence_model.specs.DeviceActs.{finish_emission, request_in, served_by, shared_grant}
use Rattle.coherence_model.specs.DeviceRows.{device_emission}
use Rattle.coherence_model.specs.DirectoryChanges.{directory}
use Rattle.coherence_model.specs.Emission.{Emission, one_send}
use Rattle.coherence_model.specs.Fitting.{cause_fits}
use Rattle.coherence_model.specs.Flight.{is_on, takes_on, without_taken}
use Rattle.coherence_model.specs.HostActs.{host_returns}
use Rattle.coherence_model.specs.HostRows.{host_emission}
use Rattle.coherence_model.specs.RequestFacts.{is_ndr_with}
use Rattle.coherence_model.specs.Snoops.{host_owed}
use Rattle.coherence_model.specs.Stages.{Stage, is_new, stage}
use Rattle.coherence_model.specs.Tags.{is_conflict_open, is_conflict_with, sends_conflict, tagged_line}
use Rattle.coherence_model.specs.Tasks.{Purpose}
use Rattle.coherence_model.specs.Transactions.{open_at}
use Rattle.coherence_lemmas.proofs.DeviceActs.{v3_serve-inv, v4_clean-inv, v5_start-inv, v6_evict-inv, v7_snoop-inv, v8_finish-inv, v9_return-inv}
use Rattle.coherence_lemmas.proofs.Directions.{take_parts}
use Rattle.coherence_lemmas.proofs.Rows.{device_take-inv}
use Rattle.coherence_lemmas.proofs.TakesSendNothing.{device_takes_silent}
use Rattle.request_laws.proofs.Conflicts.{ConflictsAre, conflict_after, op_sends_none}
use Rattle.request_laws.proofs.Counts.{count_by-append, count_by-cons}
use Rattle.request_laws.proofs.DeviceCauses.{moved_count}
use Rattle.request_laws.proofs.DeviceSends.{one_there, sent_there}
use Rattle.request_laws.proofs.Each.{Each, found_message}
use Rattle.request_laws.proofs.HostOperations.{Operated, operated}
use Rattle.request_laws.proofs.HostPlaces.{Taken, credit_off_ndr, none_taken, one_taken, takes_here, takes_off}
use Rattle.request_laws.proofs.HostTakes.{ConflictRow, answer_row, block_row, conflict_row, sends_of, take_row, takes_send_nothing, write_back_row}
use Rattle.request_laws.proofs.OpenLines.{LeadBack}
use Rattle.request_laws.proofs.Options.{when_some}
use Rattle.request_laws.proofs.Places.{on_channel, sent_one}

-- the messages of a tag's conflict, and whether it is open
abbrev pub ConflictIs : ℕ → List Message → List Message → List Message → Bool → Type 0
ConflictIs tag fw hw ndr conflict = count_by (is_conflict_with tag) fw + count_by (is_conflict_with tag) hw + count_by (is_ndr_with acknowledges tag) ndr ≡ cond conflict 1 0

-- what isn't sent isn't on a channel
kept_none : (p : Message → Bool) (q : Bool) (o : Out) (os : List Out) → p o.message ≡ false → count_by p (map (λ (x : Out). x.message) os) ≡ 0 → count_by p (map (λ (x : Out). x.message) (cond q (o ∷ os) os)) ≡ 0
kept_none p true o os no_one rest = count_by-cons p o.message (map (λ (x : Out). x.message) os) ∙ ap (λ b. cond b 1 0 + count_by p (map (λ (x : Out). x.message) os)) no_one ∙ zero_front (count_by p (map (λ (x : Out). x.message) os)) rest
  where
    zero_front : (n : ℕ) → n ≡ 0 → 0 + n ≡ 0
    zero_front n e = omega arith
kept_none p false o os no_one rest = rest

pub none_on_channel : (p : Message → Bool) (q : Out → Bool) (os : List Out) → list_any (λ (o : Out). p o.message) os ≡ false → count_by p (map (λ (x : Out). x.message) (filter q os)) ≡ 0
none_on_channel p q [] h = refl
none_on_channel p q (o ∷ os) h =
    let parts = or_parts (p o.message) (list_any (λ (x : Out). p x.message) os) h in
    kept_none p (q o) o (filter q os) parts.0 (none_on_channel p q os parts.1)

-- a host's event without a conflict that begins
quiet_sum : (n m s x k k' : ℕ) (conflict after : Bool) → s ≡ 0 → k ≡ k' → after ≡ conflict → n + m + k ≡ cond conflict 1 0 → n + s + m + k' ≡ cond after 1 0
quiet_sum n m s x k k' conflict after es ek ea h = subst (λ c. n + s + m + k' ≡ cond c 1 0) (sym ea) (omega arith)

ack_sum : (ack conflict : Bool) (n m k k' : ℕ) → k ≡ cond ack 1 0 + k' → n + m + k ≡ cond conflict 1 0 → n + 0 + m + k' ≡ cond (not ack && (false || conflict)) 1 0
ack_sum true true n m k k' e h = omega arith
ack_sum true false n m k k' e h = absurd (omega arith)
ack_sum false true n m k k' e h = omega arith
ack_sum false false n m k k' e h = omega arith

begun_sum : (this conflict : Bool) (n m s k : ℕ) → s ≡ cond this 1 0 → (this ≡ true → conflict ≡ false) → n + m + k ≡ cond conflict 1 0 → n + s + m + k ≡ cond (true && ((this || false) || conflict)) 1 0
begun_sum true true n m s k e f h = absurd (false≢true (sym (f refl)))
begun_sum true false n m s k e f h = omega arith
begun_sum false true n m s k e f h = omega arith
begun_sum false false n m s k e f h = omega arith

abbrev ConflictAfter : ℕ → ℕ → Cause → Sends → List Event → (fw hw ndr : List Message) → Type 0
ConflictAfter h tag cause sends past fw hw ndr = ConflictIs tag (fw ++ on_channel h Channel.Rwd sends) hw (without_taken (takes_on h Channel.Ndr cause) ndr) (conflict_after cause sends past tag)

appended : (h tag : ℕ) (sends : Sends) (fw hw ndr : List Message) (conflict : Bool)
    → count_by (is_conflict_with tag) fw + count_by (is_conflict_with tag) (on_channel h Channel.Rwd sends) + count_by (is_conflict_with tag) hw + count_by (is_ndr_with acknowledges tag) ndr ≡ cond conflict 1 0
    → ConflictIs tag (fw ++ on_channel h Channel.Rwd sends) hw ndr conflict
appended h tag sends fw hw ndr conflict e = ap (λ n. n + count_by (is_conflict_with tag) hw + count_by (is_ndr_with acknowledges tag) ndr) (count_by-append (is_conflict_with tag) fw (on_channel h Channel.Rwd sends)) ∙ e

silent_host : (h tag : ℕ) (cause : Cause) (sends : Sends) (past : List Event) (fw hw ndr : List Message) → sends_conflict tag sends ≡ false
    → count_by (is_ndr_with acknowledges tag) ndr ≡ count_by (is_ndr_with acknowledges tag) (without_taken (takes_on h Channel.Ndr cause) ndr) → conflict_after cause sends past tag ≡ is_conflict_open tag past
    → ConflictIs tag fw hw ndr (is_conflict_open tag past) → ConflictAfter h tag cause sends past fw hw ndr
silent_host h tag cause sends past fw hw ndr none same after inv =
    appended h tag sends fw hw (without_taken (takes_on h Channel.Ndr cause) ndr) (conflict_after cause sends past tag)
    (quiet_sum (count_by (is_conflict_with tag) fw) (count_by (is_conflict_with tag) hw) (count_by (is_conflict_with tag) (on_channel h Channel.Rwd sends)) 0 _ _ (is_conflict_open tag past) (conflict_after cause sends past tag)
    (none_on_channel (is_conflict_with tag) (is_on h Channel.Rwd) (outs sends) none) same after inv)

or_false : (b c : Bool) → b ≡ false → (b || c) ≡ c
or_false b c e = ap (λ x. x || c) e

take_conflict_by :
    (setup : Configuration) (h tag host : ℕ) (m : Message) (sends : Sends) (past : List Event) (fw hw ndr : List Message) (ack : Bool) → sends ≡ Sends.Nothing → (is_conflict_ack m && has_tag tag m) ≡ ack
    → count_by (is_ndr_with acknowledges tag) ndr ≡ cond ack 1 0 + count_by (is_ndr_with acknowledges tag) (without_taken (takes_on h Channel.Ndr (Cause.Take host m)) ndr)
    → ConflictIs tag fw hw ndr (is_conflict_open tag past) → ConflictAfter h tag (Cause.Take host m) sends past fw hw ndr
take_conflict_by setup h tag host m sends past fw hw ndr ack none is gone inv =
    subst (λ x. ConflictAfter h tag (Cause.Take host m) x past fw hw ndr) (sym none)
    (appended h tag Sends.Nothing fw hw (without_taken (takes_on h Channel.Ndr (Cause.Take host m)) ndr) (conflict_after (Cause.Take host m) Sends.Nothing past tag)
    (ack_sum ack (is_conflict_open tag past) (count_by (is_conflict_with tag) fw) (count_by (is_conflict_with tag) hw) _ _ gone inv
    ∙ ap (λ c. cond (not c && (false || is_conflict_open tag past)) 1 0) (sym is)))

zero_front : (n m : ℕ) → n ≡ m → n ≡ 0 + m
zero_front n m e = omega arith

take_conflict :
    (setup : Configuration) (h tag host : ℕ) (m : Message) (sends : Sends) (past : List Event) (w : Emission) (fw hw ndr : List Message)
    → host_emission setup h (Cause.Take host m) past ≡ Some w → sends ≡ w.sends → cause_fits setup h (Cause.Take host m) ≡ true → Taken (takes_on h Channel.Ndr (Cause.Take host m)) ndr
    → ConflictIs tag fw hw ndr (is_conflict_open tag past) → ConflictAfter h tag (Cause.Take host m) sends past fw hw ndr
take_conflict setup h tag host (Message.Req op meta snp t line) sends past w fw hw ndr row sent fits ns inv = absurd (none-some w (take_row setup h (Message.Req op meta snp t line) past w row))
take_conflict setup h tag host (Message.MemWr meta snp t line bytes) sends past w fw hw ndr row sent fits ns inv = absurd (none-some w (take_row setup h (Message.MemWr meta snp t line bytes) past w row))
take_conflict setup h tag host (Message.BiConflict t) sends past w fw hw ndr row sent fits ns inv = absurd (none-some w (take_row setup h (Message.BiConflict t) past w row))
take_conflict setup h tag host (Message.BiRsp op bitag low) sends past w fw hw ndr row sent fits ns inv = absurd (none-some w (take_row setup h (Message.BiRsp op bitag low) past w row))
take_conflict setup h tag host (Message.Ndr op t) sends past w fw hw ndr row sent fits ns inv =
    let m = Message.Ndr op t in
    take_conflict_by setup h tag host m sends past fw hw ndr (acknowledges op && (t.0 == tag)) (sent ∙ takes_send_nothing setup h m past w (take_row setup h m past w row)) refl
    (one_taken _ m ndr ns (takes_here h host Channel.Ndr m (sym (take_parts setup h host m fits).receiver) refl) (is_ndr_with acknowledges tag)) inv
take_conflict setup h tag host (Message.MemData t bytes) sends past w fw hw ndr row sent fits ns inv =
    let m = Message.MemData t bytes in
    take_conflict_by setup h tag host m sends past fw hw ndr false (sent ∙ takes_send_nothing setup h m past w (take_row setup h m past w row)) refl
    (zero_front _ _ (none_taken _ ndr (takes_off h host Channel.Ndr m refl) (is_ndr_with acknowledges tag))) inv
take_conflict setup h tag host (Message.BiSnp op bitag line span) sends past w fw hw ndr row sent fits ns inv =
    let m = Message.BiSnp op bitag line span in
    take_conflict_by setup h tag host m sends past fw hw ndr false (sent ∙ takes_send_nothing setup h m past w (take_row setup h m past w row)) refl
    (zero_front _ _ (none_taken _ ndr (takes_off h host Channel.Ndr m refl) (is_ndr_with acknowledges tag))) inv
take_conflict setup h tag host (Message.Credit c) sends past w fw hw ndr row sent fits ns inv =
    let m = Message.Credit c in
    take_conflict_by setup h tag host m sends past fw hw ndr false (sent ∙ takes_send_nothing setup h m past w (take_row setup h m past w row)) refl
    (zero_front _ _ (none_taken _ ndr (takes_off h host Channel.Ndr m (credit_off_ndr c)) (is_ndr_with acknowledges tag))) inv

-- a conflict that begins wasn't open
not_new : (st : Stage) (t : ℕ) → is_new st ≡ true → st ≡ Stage.Asked t → ⊥
not_new Stage.New t e f = cc
not_new (Stage.Asked u) t e f = cc
not_new Stage.Early t e f = cc
not_new Stage.Late t e f = cc
not_new Stage.Writing t e f = cc
not_new Stage.Written t e f = cc

was_closed : (setup : Configuration) (h l : ℕ) (past : List Event) (sends : Sends) → LeadBack setup (λ a. open_at a past) (λ t. tagged_line t past) → ConflictsAre setup past → (row : ConflictRow setup h l past sends)
    → (c : Bool) → is_conflict_open row.o.tag past ≡ c → c ≡ false
was_closed setup h l past sends lead kept row true is =
    let found = kept.found row.o.tag is in
    let line = same_Some l found.0 (sym (lead l row.o row.there).back ∙ (kept.asked found.0 row.o.tag found.1).named) in
    absurd (not_new (stage setup l past) row.o.tag row.new (ap (λ x. stage setup x past) line ∙ found.1))
was_closed setup h l past sends lead kept row false is = refl

begin_conflict : (setup : Configuration) (h tag l : ℕ) (sends : Sends) (past : List Event) (fw hw ndr : List Message) → LeadBack setup (λ a. open_at a past) (λ t. tagged_line t past) → ConflictsAre setup past
    → ConflictRow setup h l past sends → ConflictIs tag fw hw ndr (is_conflict_open tag past) → ConflictAfter h tag (Cause.Act (Act.Conflict (record { 0 = l }))) sends past fw hw ndr
begin_conflict setup h tag l sends past fw hw ndr lead kept row inv =
    appended h tag sends fw hw ndr (conflict_after (Cause.Act (Act.Conflict (record { 0 = l }))) sends past tag)
    (begun_sum (row.o.tag == tag) (is_conflict_open tag past) (count_by (is_conflict_with tag) fw) (count_by (is_conflict_with tag) hw) (count_by (is_conflict_with tag) (on_channel h Channel.Rwd sends)) (count_by (is_ndr_with acknowledges tag) ndr)
    (ap (λ x. count_by (is_conflict_with tag) (on_channel h Channel.Rwd x)) row.sent ∙ ap (count_by (is_conflict_with tag)) (sent_one h Channel.Rwd (Message.BiConflict (record { 0 = row.o.tag })))
    ∙ count_by-cons (is_conflict_with tag) (Message.BiConflict (record { 0 = row.o.tag })) [] ∙ zero_back (cond (row.o.tag == tag) 1 0))
    (λ same. sym (ap (λ t. is_conflict_open t past) (eqb-true row.o.tag tag same)) ∙ was_closed setup h l past sends lead kept row (is_conflict_open row.o.tag past) refl) inv
    ∙ ap (λ c. cond (true && (c || is_conflict_open tag past)) 1 0) (sym (ap (sends_conflict tag) row.sent)))
  where
    zero_back : (n : ℕ) → n + 0 ≡ n
    zero_back n = omega arith

act_conflict :
    (setup : Configuration) (h tag : ℕ) (act : Act) (sends : Sends) (past : List Event) (w : Emission) (fw hw ndr : List Message)
    → host_emission setup h (Cause.Act act) past ≡ Some w → sends ≡ w.sends → LeadBack setup (λ a. open_at a past) (λ t. tagged_line t past) → ConflictsAre setup past
    → ConflictIs tag fw hw ndr (is_conflict_open tag past) → ConflictAfter h tag (Cause.Act act) sends past fw hw ndr
act_conflict setup h tag (Act.Conflict line) sends past w fw hw ndr row sent lead kept inv =
    begin_conflict setup h tag line.0 sends past fw hw ndr lead kept (subst (ConflictRow setup h line.0 past) (sym sent) (conflict_row setup h line.0 past w row)) inv
act_conflict setup h tag (Act.WriteBack line) sends past w fw hw ndr row sent lead kept inv =
    let none = ap (sends_conflict tag) (sent ∙ (write_back_row setup h line.0 past w row).sent) in
    silent_host h tag (Cause.Act (Act.WriteBack line)) sends past fw hw ndr none refl (or_false (sends_conflict tag sends) (is_conflict_open tag past) none) inv
act_conflict setup h tag (Act.Answer line) sends past w fw hw ndr row sent lead kept inv =
    let none = ap (sends_conflict tag) (sent ∙ (answer_row setup h line.0 past w row).sent) in
    silent_host h tag (Cause.Act (Act.Answer line)) sends past fw hw ndr none refl (or_false (sends_conflict tag sends) (is_conflict_open tag past) none) inv
act_conflict setup h tag (Act.AnswerBlock line) sends past w fw hw ndr row sent lead kept inv =
    let none = ap (sends_conflict tag) (sent ∙ (block_row setup h line.0 past w row).sent) in
    silent_host h tag (Cause.Act (Act.AnswerBlock line)) sends past fw hw ndr none refl (or_false (sends_conflict tag sends) (is_conflict_open tag past) none) inv
act_conflict setup h tag (Act.HostReturn c) sends past w fw hw ndr row sent lead kept inv =
    let none = ap (sends_conflict tag) (sent ∙ ap sends_of (sym (when_some (host_returns c && nat_le 1 (host_owed h c past)) (one_send h (Message.Credit c)) w row).1)) in
    silent_host h tag (Cause.Act (Act.HostReturn c)) sends past fw hw ndr none refl (or_false (sends_conflict tag sends) (is_conflict_open tag past) none) inv
act_conflict setup h tag (Act.Serve k t) sends past w fw hw ndr row sent lead kept inv = absurd (none-some w row)
act_conflict setup h tag (Act.Clean k t) sends past w fw hw ndr row sent lead kept inv = absurd (none-some w row)
act_conflict setup h tag (Act.Start k t) sends past w fw hw ndr row sent lead kept inv = absurd (none-some w row)
act_conflict setup h tag (Act.Evict k t) sends past w fw hw ndr row sent lead kept inv = absurd (none-some w row)
act_conflict setup h tag (Act.Snoop k line) sends past w fw hw ndr row sent lead kept inv = absurd (none-some w row)
act_conflict setup h tag (Act.Finish line) sends past w fw hw ndr row sent lead kept inv = absurd (none-some w row)
act_conflict setup h tag (Act.DeviceReturn k c) sends past w fw hw ndr row sent lead kept inv = absurd (none-some w row)

pub host_conflict :
    (setup : Configuration) (h tag : ℕ) (cause : Cause) (sends : Sends) (past : List Event) (w : Emission) (fw hw ndr : List Message)
    → host_emission setup h cause past ≡ Some w → sends ≡ w.sends → cause_fits setup h cause ≡ true → LeadBack setup (λ a. open_at a past) (λ t. tagged_line t past) → ConflictsAre setup past → Taken (takes_on h Channel.Ndr cause) ndr
    → ConflictIs tag fw hw ndr (is_conflict_open tag past) → ConflictIs tag (fw ++ on_channel h Channel.Rwd sends) hw (without_taken (takes_on h Channel.Ndr cause) ndr) (conflict_after cause sends past tag)
host_conflict setup h tag (Cause.Op s i op) sends past w fw hw ndr row sent fits lead kept ns inv =
    let none = op_sends_none setup h op past sends tag (subst (Operated setup h op past) (sym sent) (operated setup h s i op past w row)) in
    silent_host h tag (Cause.Op s i op) sends past fw hw ndr none refl (or_false (sends_conflict tag sends) (is_conflict_open tag past) none) inv
host_conflict setup h tag (Cause.Take host m) sends past w fw hw ndr row sent fits lead kept ns inv = take_conflict setup h tag host m sends past w fw hw ndr row sent fits ns inv
host_conflict setup h tag (Cause.Act act) sends past w fw hw ndr row sent fits lead kept ns inv = act_conflict setup h tag act sends past w fw hw ndr row sent lead kept inv

-- a device's event
served_ack : (tag : ℕ) (m answer : Message) → served_by m ≡ Some answer → (is_ndr_with acknowledges tag answer ≡ is_conflict_with tag m) × (channel_eq (channel_of answer) Channel.Ndr ≡ true)
served_ack tag (Message.Req _ _ _ _ _) answer e = absurd (none-some answer e)
served_ack tag (Message.MemWr meta snp t line bytes) answer e = subst (λ x. (is_ndr_with acknowledges tag x ≡ false) × (channel_eq (channel_of x) Channel.Ndr ≡ true)) (same_Some (Message.Ndr NdrOp.Cmp t) answer e) (refl, refl)
served_ack tag (Message.BiConflict t) answer e = subst (λ x. (is_ndr_with acknowledges tag x ≡ (t.0 == tag)) × (channel_eq (channel_of x) Channel.Ndr ≡ true)) (same_Some (Message.Ndr NdrOp.ConflictAck t) answer e) (refl, refl)
served_ack tag (Message.BiRsp _ _ _) answer e = absurd (none-some answer e)
served_ack tag (Message.Ndr _ _) answer e = absurd (none-some answer e)
served_ack tag (Message.MemData _ _) answer e = absurd (none-some answer e)
served_ack tag (Message.BiSnp _ _ _ _) answer e = absurd (none-some answer e)
served_ack tag (Message.Credit _) answer e = absurd (none-some answer e)

abbrev DeviceConflict : ℕ → ℕ → Cause → Sends → (fw hw ndr : List Message) → Bool → Type 0
DeviceConflict h tag cause sends fw hw ndr conflict = ConflictIs tag (without_taken (takes_on h Channel.Rwd cause) fw) (writes_after h cause hw) (ndr ++ on_channel h Channel.Ndr sends) conflict

-- no BI-ConflictAck is sent
abbrev no_acks : ℕ → Sends → Type 0
no_acks tag sends = list_any (λ (o : Out). is_ndr_with acknowledges tag o.message) (outs sends) ≡ false

silent_sum : (n m k s : ℕ) (c : Bool) → s ≡ 0 → n + m + k ≡ cond c 1 0 → n + m + (k + s) ≡ cond c 1 0
silent_sum n m k s c e h = omega arith

unanswered : (h tag : ℕ) (sends : Sends) (fw hw ndr : List Message) (c : Bool) → no_acks tag sends → ConflictIs tag fw hw ndr c → ConflictIs tag fw hw (ndr ++ on_channel h Channel.Ndr sends) c
unanswered h tag sends fw hw ndr c none inv =
    ap (λ n. count_by (is_conflict_with tag) fw + count_by (is_conflict_with tag) hw + n) (count_by-append (is_ndr_with acknowledges tag) ndr (on_channel h Channel.Ndr sends))
    ∙ silent_sum (count_by (is_conflict_with tag) fw) (count_by (is_conflict_with tag) hw) (count_by (is_ndr_with acknowledges tag) ndr) (count_by (is_ndr_with acknowledges tag) (on_channel h Channel.Ndr sends)) c
    (none_on_channel (is_ndr_with acknowledges tag) (is_on h Channel.Ndr) (outs sends) none) inv

no_acks_as : (tag : ℕ) (sends other : Sends) → sends ≡ other → no_acks tag other → no_acks tag sends
no_acks_as tag sends other e h = subst (no_acks tag) (sym e) h

-- a finished task sends none
grant_no_ack : (b : Bool) → acknowledges (cond b NdrOp.CmpS NdrOp.CmpE) ≡ false
grant_no_ack true = refl
grant_no_ack false = refl

finish_no_acks : (tag k t : ℕ) (c : NdrOp) (bytes : Bytes64) (purpose : Purpose) → acknowledges c ≡ false → no_acks tag (finish_emission purpose c k t bytes).sends
finish_no_acks tag k t c bytes Purpose.SharedRead e = ap (λ b. (b && (t == tag)) || ((false && (t == tag)) || false)) e
finish_no_acks tag k t c bytes Purpose.OwningRead e = refl
finish_no_acks tag k t c bytes Purpose.Invalidation e = refl
finish_no_acks tag k t c bytes Purpose.Eviction e = refl

serve_sum : (n m m' k s : ℕ) (b c : Bool) → m ≡ cond b 1 0 + m' → s ≡ cond b 1 0 → n + m + k ≡ cond c 1 0 → n + m' + (k + s) ≡ cond c 1 0
serve_sum n m m' k s true c e f h = omega arith
serve_sum n m m' k s false c e f h = omega arith

anything : (ms : List Message) → Each (λ m. Unit {0}) ms
anything [] = tt
anything (m ∷ ms) = (tt, anything ms)

serve_conflict : (h tag k : ℕ) (t : Tag) (sends : Sends) (dev : List Event) (fw ndr : List Message) (c : Bool) (m answer : Message) → message_with t.0 (buffered_writes k dev) ≡ Some m → served_by m ≡ Some answer
    → sends ≡ Sends.One (record { host = k; message = answer }) → ConflictIs tag fw (buffered_writes h dev) ndr c → (own : Bool) → (k == h) ≡ own
    → ConflictIs tag fw (without_used (cond own (Some t.0) None) (buffered_writes h dev)) (ndr ++ on_channel h Channel.Ndr sends) c
serve_conflict h tag k t sends dev fw ndr c m answer found answers goes inv true is =
    let by = served_ack tag m answer answers in
    let less = (found_message (λ n. Unit {0}) t.0 m (buffered_writes h dev) (anything (buffered_writes h dev)) (ap (λ n. message_with t.0 (buffered_writes n dev)) (sym (eqb-true k h is)) ∙ found)).less in
    ap (λ n. count_by (is_conflict_with tag) fw + count_by (is_conflict_with tag) (without_tag t.0 (buffered_writes h dev)) + n) (count_by-append (is_ndr_with acknowledges tag) ndr (on_channel h Channel.Ndr sends))
    ∙ serve_sum (count_by (is_conflict_with tag) fw) (count_by (is_conflict_with tag) (buffered_writes h dev)) (count_by (is_conflict_with tag) (without_tag t.0 (buffered_writes h dev))) (count_by (is_ndr_with acknowledges tag) ndr)
    (count_by (is_ndr_with acknowledges tag) (on_channel h Channel.Ndr sends)) (is_conflict_with tag m) c (less (is_conflict_with tag))
    (ap (λ x. sent_there (is_ndr_with acknowledges tag) h Channel.Ndr x) goes ∙ one_there (is_ndr_with acknowledges tag) h k Channel.Ndr answer
    ∙ ap (λ x. cond ((x && channel_eq (channel_of answer) Channel.Ndr) && is_ndr_with acknowledges tag answer) 1 0) is ∙ ap (λ x. cond (x && is_ndr_with acknowledges tag answer) 1 0) by.1 ∙ ap (λ x. cond x 1 0) by.0) inv
serve_conflict h tag k t sends dev fw ndr c m answer found answers goes inv false is =
    ap (λ n. count_by (is_conflict_with tag) fw + count_by (is_conflict_with tag) (buffered_writes h dev) + n) (count_by-append (is_ndr_with acknowledges tag) ndr (on_channel h Channel.Ndr sends))
    ∙ silent_sum (count_by (is_conflict_with tag) fw) (count_by (is_conflict_with tag) (buffered_writes h dev)) (count_by (is_ndr_with acknowledges tag) ndr) (count_by (is_ndr_with acknowledges tag) (on_channel h Channel.Ndr sends)) c
    (ap (λ x. sent_there (is_ndr_with acknowledges tag) h Channel.Ndr x) goes ∙ one_there (is_ndr_with acknowledges tag) h k Channel.Ndr answer
    ∙ ap (λ x. cond ((x && channel_eq (channel_of answer) Channel.Ndr) && is_ndr_with acknowledges tag answer) 1 0) is) inv

pub device_conflict :
    (setup : Configuration) (opening : List (Line × Bytes64)) (h tag : ℕ) (cause : Cause) (sends : Sends) (dev : List Event) (w : Emission) (fw ndr : List Message) (c : Bool)
    → device_emission setup opening cause dev ≡ Some w → sends ≡ w.sends → Taken (takes_on h Channel.Rwd cause) fw
    → ConflictIs tag fw (buffered_writes h dev) ndr c → ConflictIs tag (without_taken (takes_on h Channel.Rwd cause) fw) (writes_after h cause (buffered_writes h dev)) (ndr ++ on_channel h Channel.Ndr sends) c
device_conflict setup opening h tag (Cause.Op s i op) sends dev w fw ndr c row sent ws inv = absurd (none-some w row)
device_conflict setup opening h tag (Cause.Take k m) sends dev w fw ndr c row sent ws inv =
    unanswered h tag sends (without_taken (takes_on h Channel.Rwd (Cause.Take k m)) fw) (writes_after h (Cause.Take k m) (buffered_writes h dev)) ndr c (no_acks_as tag sends Sends.Nothing (sent ∙ device_takes_silent setup k m dev w (device_take-inv setup opening k m dev w row).same) refl)
    (ap (λ n. n + count_by (is_ndr_with acknowledges tag) ndr) (moved_count (is_conflict_with tag) (takes_on h Channel.Rwd (Cause.Take k m)) fw (buffered_writes h dev) ws) ∙ inv)
device_conflict setup opening h tag (Cause.Act (Act.Conflict line)) sends dev w fw ndr c row sent ws inv = absurd (none-some w row)
device_conflict setup opening h tag (Cause.Act (Act.WriteBack line)) sends dev w fw ndr c row sent ws inv = absurd (none-some w row)
device_conflict setup opening h tag (Cause.Act (Act.Answer line)) sends dev w fw ndr c row sent ws inv = absurd (none-some w row)
device_conflict setup opening h tag (Cause.Act (Act.AnswerBlock line)) sends dev w fw ndr c row sent ws inv = absurd (none-some w row)
device_conflict setup opening h tag (Cause.Act (Act.HostReturn x)) sends dev w fw ndr c row sent ws inv = absurd (none-some w row)
device_conflict setup opening h tag (Cause.Act (Act.Serve k t)) sends dev w fw ndr c row sent ws inv =
    let by = v3_serve-inv k (message_with t.0 (buffered_writes k dev)) w row in
    serve_conflict h tag k t sends dev fw ndr c by.m by.answer by.found by.answers (sent ∙ ap (λ (x : Emission). x.sends) by.emits) inv (k == h) refl
device_conflict setup opening h tag (Cause.Act (Act.Clean k t)) sends dev w fw ndr c row sent ws inv =
    let by = v4_clean-inv k (option_and_then request_in (message_with t.0 (buffered_requests k dev))) (directory setup dev) w row in
    unanswered h tag sends fw (buffered_writes h dev) ndr c (no_acks_as tag sends _ (sent ∙ ap (λ (x : Emission). x.sends) by.emits) refl) inv
device_conflict setup opening h tag (Cause.Act (Act.Start k t)) sends dev w fw ndr c row sent ws inv =
    let by = v5_start-inv setup k (option_and_then request_in (message_with t.0 (buffered_requests k dev))) (directory setup dev) dev w row in
    unanswered h tag sends fw (buffered_writes h dev) ndr c (no_acks_as tag sends _ (sent ∙ ap (λ (x : Emission). x.sends) by.emits) refl) inv
device_conflict setup opening h tag (Cause.Act (Act.Evict k t)) sends dev w fw ndr c row sent ws inv =
    let by = v6_evict-inv setup k (option_and_then request_in (message_with t.0 (buffered_requests k dev))) (directory setup dev) dev w row in
    unanswered h tag sends fw (buffered_writes h dev) ndr c (no_acks_as tag sends _ (sent ∙ ap (λ (x : Emission). x.sends) by.emits) refl) inv
device_conflict setup opening h tag (Cause.Act (Act.Snoop k line)) sends dev w fw ndr c row sent ws inv =
    let by = v7_snoop-inv k line.0 ((directory setup dev).task line.0) (directory setup dev) dev w row in
    unanswered h tag sends fw (buffered_writes h dev) ndr c (no_acks_as tag sends _ (sent ∙ ap (λ (x : Emission). x.sends) by.emits) refl) inv
device_conflict setup opening h tag (Cause.Act (Act.Finish line)) sends dev w fw ndr c row sent ws inv =
    let by = v8_finish-inv setup opening line.0 ((directory setup dev).task line.0) (directory setup dev) dev w row in
    unanswered h tag sends fw (buffered_writes h dev) ndr c
    (no_acks_as tag sends _ (sent ∙ ap (λ (x : Emission). x.sends) by.emits) (finish_no_acks tag by.t.host by.t.tag (shared_grant setup line.0 by.t (directory setup dev)) _ by.t.purpose (grant_no_ack _))) inv
device_conflict setup opening h tag (Cause.Act (Act.DeviceReturn k x)) sends dev w fw ndr c row sent ws inv =
    let by = v9_return-inv k x dev w row in
    unanswered h tag sends fw (buffered_writes h dev) ndr c (no_acks_as tag sends _ (sent ∙ ap (λ (x' : Emission). x'.sends) by.emits) refl) inv
