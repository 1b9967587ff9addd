-- The conflict of a tag is open just where the line that took the tag last is Asked with it: by recursion over a host's own events.
use Rattle.std.proofs.Common.{◌≡◌, ℕ, ◌≤◌, ◌<◌, Bool, true, false, List, [], ◌∷◌, Option, Some, None, cond, refl, sym, ◌∙◌, ap, subst, ◌⊎◌, inl, inr, arith}
use Rattle.std.specs.Prelude.{nat_le, not, ◌&&◌, ◌==◌, ◌||◌}
use Rattle.std.specs.List.{list_all}
use Rattle.std.specs.Option.{option_map_or, option_or}
use Rattle.std.proofs.lemmas.Bool.{cond-false, cond-true, eq-eqb, eqb-true, false≢true, leb-true, ne_eqb, not-true, or_cases, or_left, or_right}
use Rattle.std.proofs.lemmas.Option.{none-some}
use Rattle.cxl_message.specs.declared.events.Act.{Act}
use Rattle.cxl_message.specs.declared.events.Cause.{Cause}
use Rattle.cxl_message.specs.declared.events.Event.{Event}
use Rattle.cxl_message.specs.declared.events.Op.{Op}
use Rattle.cxl_message.specs.declared.events.Sends.{Sends}
use Rattle.cxl_message.specs.declared.identifiers.Bytes64.{Bytes64}
use Rattle.cxl_message.specs.declared.identifiers.Line.{Line}
use Rattle.cxl_message.specs.declared.messages.Message.{Message}
use Rattle.cxl_message.specs.declared.opcodes.NdrOp.{NdrOp}
use Rattle.cxl_message.specs.declared.opcodes.Span.{Span}
use Rattle.cxl_message.specs.Events.{line_of}
use Rattle.cxl_message.specs.Setup.{Configuration}
use Rattle.cxl_message.specs.Spans.{covers, lines_of}
use Rattle.coherence_model.specs.Emission.{Emission, nothing, one_send}
use Rattle.coherence_model.specs.Fitting.{is_device}
use Rattle.coherence_model.specs.HostActs.{host_returns}
use Rattle.coherence_model.specs.HostOperations.{request_message}
use Rattle.coherence_model.specs.HostRows.{host_emission}
use Rattle.coherence_model.specs.Snoops.{buffered_snoops, host_owed, is_snooped, snoops_after}
use Rattle.coherence_model.specs.Stages.{Stage, conflict_end, is_new, is_new_or_late, stage, stage_after, stage_after_ack, stage_after_completion, was_completed}
use Rattle.coherence_model.specs.Tags.{is_conflict_open, is_conflict_with, sends_conflict, tagged_after, tagged_line, takes_conflict_ack}
use Rattle.coherence_model.specs.Transactions.{Transaction, open_at}
use Rattle.request_laws.proofs.BufferedSnoops.{total}
use Rattle.request_laws.proofs.Counts.{all_holds, covers-lines, times}
use Rattle.request_laws.proofs.HostOperations.{Evicts, Hits, Operated, Requests, operated, request_opens}
use Rattle.request_laws.proofs.HostTakes.{ConflictRow, answer_row, block_row, conflict_row, sends_of, take_row, takes_send_nothing, write_back_row}
use Rattle.request_laws.proofs.OpenLines.{LeadBack, one_tags, open_leads_back, two_tag, victim_opens}
use Rattle.request_laws.proofs.Options.{when_some}
use Rattle.request_laws.proofs.OwnRuns.{host_goes_on}
use Rattle.request_laws.proofs.SnoopsKept.{SnoopsKept, is_held, not_snooped, snooped_counts, snoops_kept, stays_snooped, take_stays}
use Rattle.coherence_model.specs.OwnRuns.{is_own_run}

-- a line that is Asked with a tag: the tag leads back to it, it is snooped, and the tag's conflict is open
pub record Asks (setup : Configuration) (a t : ℕ) (tagged : Option ℕ) (count : ℕ) (conflict : Bool) : Type 0 where
  pub named : tagged ≡ Some a
  pub snooped : 1 ≤ count
  pub still : conflict ≡ true
  pub tag : t < setup.tags
  pub line : a < setup.lines

-- the conflicts by stages, tags, snoops and what is open
pub record ConflictsKept (setup : Configuration) (stages : ℕ → Stage) (tagged : ℕ → Option ℕ) (counts : ℕ → ℕ) (conflict : ℕ → Bool) : Type 0 where
  pub asked : (a t : ℕ) → stages a ≡ Stage.Asked t → Asks setup a t (tagged t) (counts a) (conflict t)
  pub found : (t : ℕ) → conflict t ≡ true → (a : ℕ) × (stages a ≡ Stage.Asked t)

abbrev pub ConflictsAre : Configuration → List Event → Type 0
ConflictsAre setup past =
    ConflictsKept setup (λ a. stage setup a past) (λ t. tagged_line t past) (λ a. total a (buffered_snoops past)) (λ t. is_conflict_open t past)

abbrev pub conflict_after : Cause → Sends → List Event → ℕ → Bool
conflict_after cause sends past t = not (takes_conflict_ack t cause) && (sends_conflict t sends || is_conflict_open t past)

abbrev ConflictsAfter : Configuration → Cause → Sends → List Event → Type 0
ConflictsAfter setup cause sends past =
    ConflictsKept setup (λ a. stage_after setup a cause past (stage setup a past)) (λ t. tagged_after t cause sends (tagged_line t past))
    (λ a. total a (snoops_after cause (buffered_snoops past))) (λ t. conflict_after cause sends past t)

-- what happens to the conflicts at an event that begins none
record Carries (setup : Configuration) (cause : Cause) (sends : Sends) (past : List Event) : Type 0 where
  stays : (a t : ℕ) → stage setup a past ≡ Stage.Asked t → 1 ≤ total a (buffered_snoops past) → 1 ≤ total a (snoops_after cause (buffered_snoops past))
  back : (a t : ℕ) → stage_after setup a cause past (stage setup a past) ≡ Stage.Asked t → (stage setup a past ≡ Stage.Asked t) × (is_conflict_open t past ≡ true → conflict_after cause sends past t ≡ true)
  tags : (t : ℕ) → is_conflict_open t past ≡ true → tagged_after t cause sends (tagged_line t past) ≡ tagged_line t past
  ahead : (t : ℕ) → conflict_after cause sends past t ≡ true
      → (is_conflict_open t past ≡ true) × ((a : ℕ) → stage setup a past ≡ Stage.Asked t → 1 ≤ total a (buffered_snoops past) → stage_after setup a cause past (stage setup a past) ≡ Stage.Asked t)

carried : (setup : Configuration) (cause : Cause) (sends : Sends) (past : List Event) → ConflictsAre setup past → Carries setup cause sends past → ConflictsAfter setup cause sends past
carried setup cause sends past inv c = record {
  asked = λ a t st.
      let was = c.back a t st in
      let old = inv.asked a t was.0 in
      record { named = c.tags t old.still ∙ old.named; snooped = c.stays a t was.0 old.snooped; still = was.1 old.still; tag = old.tag; line = old.line };
  found = λ t is.
      let was = c.ahead t is in
      let old = inv.found t was.0 in
      (old.0, was.1 old.0 old.1 (inv.asked old.0 t old.1).snooped);
}

held : (setup : Configuration) (a t : ℕ) (past : List Event) → stage setup a past ≡ Stage.Asked t → is_held (stage setup a past) ≡ true
held setup a t past st = ap is_held st

-- an operation sends no conflict and takes no tag of an open one
pub op_sends_none : (setup : Configuration) (h : ℕ) (op : Op) (past : List Event) (sends : Sends) (t : ℕ) → Operated setup h op past sends → sends_conflict t sends ≡ false
op_sends_none setup h op past sends t (Hits none) = ap (sends_conflict t) none
op_sends_none setup h op past sends t (Requests one) = ap (sends_conflict t) one.sent ∙ ap (λ b. b || false) ((request_opens op one.t).no_conflict t)
op_sends_none setup h op past sends t (Evicts two) =
    ap (sends_conflict t) two.sent ∙ ap (λ b. b || (is_conflict_with t (request_message op two.u) || false)) ((victim_opens setup two.v past two.t).no_conflict t) ∙ ap (λ b. b || false) ((request_opens op two.u).no_conflict t)

other_tag : (past : List Event) (t u : ℕ) → is_conflict_open u past ≡ false → is_conflict_open t past ≡ true → (u == t) ≡ false
other_tag past t u quiet is = ne_eqb u t (λ same. false≢true (sym quiet ∙ ap (λ x. is_conflict_open x past) same ∙ is))

op_keeps_tags : (setup : Configuration) (h s i : ℕ) (op : Op) (past : List Event) (sends : Sends) (t : ℕ) → Operated setup h op past sends → is_conflict_open t past ≡ true
    → tagged_after t (Cause.Op s i op) sends (tagged_line t past) ≡ tagged_line t past
op_keeps_tags setup h s i op past sends t (Hits none) is = ap (λ x. tagged_after t (Cause.Op s i op) x (tagged_line t past)) none
op_keeps_tags setup h s i op past sends t (Requests one) is =
    ap (λ x. tagged_after t (Cause.Op s i op) x (tagged_line t past)) one.sent
    ∙ one_tags t s i h op _ _ one.t _ past (request_opens op one.t)
    ∙ ap (λ b. option_or (cond b (Some (line_of op)) None) (tagged_line t past)) (other_tag past t one.t one.free.quiet is)
op_keeps_tags setup h s i op past sends t (Evicts two) is =
    ap (λ x. tagged_after t (Cause.Op s i op) x (tagged_line t past)) two.sent
    ∙ two_tag t s i h op _ _ _ two.t _ _ two.u _ past (victim_opens setup two.v past two.t) (request_opens op two.u)
    ∙ ap (λ b. option_or (cond b (Some two.v) None) (option_or (cond (two.u == t) (Some (line_of op)) None) (tagged_line t past))) (other_tag past t two.t two.free.first.quiet is)
    ∙ ap (λ b. option_or (cond b (Some (line_of op)) None) (tagged_line t past)) (other_tag past t two.u two.free.second.quiet is)

or_none : (b c : Bool) → b ≡ false → (b || c) ≡ true → c ≡ true
or_none true c e h = absurd (false≢true (sym e))
or_none false c e h = h

op_carries : (setup : Configuration) (h s i : ℕ) (op : Op) (past : List Event) (sends : Sends) → Operated setup h op past sends → Carries setup (Cause.Op s i op) sends past
op_carries setup h s i op past sends is = record {
  stays = λ a t st n. n;
  back = λ a t st. (st, λ still. or_right (sends_conflict t sends) (is_conflict_open t past) still);
  tags = λ t still. op_keeps_tags setup h s i op past sends t is still;
  ahead = λ t now. (or_none (sends_conflict t sends) (is_conflict_open t past) (op_sends_none setup h op past sends t is) now, λ a st n. st);
}

-- stages after an NDR message
asked_before_completion : (setup : Configuration) (tag t : ℕ) (st : Stage) → stage_after_completion setup tag st ≡ Stage.Asked t → st ≡ Stage.Asked t
asked_before_completion setup tag t Stage.New h = h
asked_before_completion setup tag t (Stage.Asked u) h = h
asked_before_completion setup tag t Stage.Early h = h
asked_before_completion setup tag t Stage.Late h = h
asked_before_completion setup tag t Stage.Writing h = neither (tag == setup.tags) h
  where
    neither : (b : Bool) → cond b Stage.Written Stage.Writing ≡ Stage.Asked t → Stage.Writing ≡ Stage.Asked t
    neither true k = cc
    neither false k = k
asked_before_completion setup tag t Stage.Written h = h

asked_no_end : (b : Bool) (t : ℕ) → cond b Stage.Late Stage.Early ≡ Stage.Asked t → ⊥
asked_no_end true t h = cc
asked_no_end false t h = cc

asked_by_ack : (tag t u a : ℕ) (past : List Event) (b : Bool) → (u == tag) ≡ b → cond b (conflict_end (open_at a past)) (Stage.Asked u) ≡ Stage.Asked t → (◌≡◌ {A = Stage} (Stage.Asked u) (Stage.Asked t)) × ((tag == t) ≡ false)
asked_by_ack tag t u a past true is h = absurd (asked_no_end (was_completed (open_at a past)) t h)
asked_by_ack tag t u a past false is h =
    (h, ne_eqb tag t (λ same. let u_is : u ≡ t = cc in false≢true (sym is ∙ eq-eqb u tag (u_is ∙ sym same))))

asked_before_ack : (tag t a : ℕ) (past : List Event) (st : Stage) → stage_after_ack tag a past st ≡ Stage.Asked t → (st ≡ Stage.Asked t) × ((tag == t) ≡ false)
asked_before_ack tag t a past Stage.New h = cc
asked_before_ack tag t a past (Stage.Asked u) h = asked_by_ack tag t u a past (u == tag) refl h
asked_before_ack tag t a past Stage.Early h = cc
asked_before_ack tag t a past Stage.Late h = cc
asked_before_ack tag t a past Stage.Writing h = cc
asked_before_ack tag t a past Stage.Written h = cc

-- a take without effect on conflicts
quiet_take : (setup : Configuration) (host : ℕ) (m : Message) (past : List Event) (sends : Sends) → sends ≡ Sends.Nothing
    → ((t : ℕ) → takes_conflict_ack t (Cause.Take host m) ≡ false)
    → ((a t : ℕ) → 1 ≤ total a (buffered_snoops past) → 1 ≤ total a (snoops_after (Cause.Take host m) (buffered_snoops past)))
    → ((a t : ℕ) → stage_after setup a (Cause.Take host m) past (stage setup a past) ≡ Stage.Asked t → stage setup a past ≡ Stage.Asked t)
    → ((a t : ℕ) → stage setup a past ≡ Stage.Asked t → 1 ≤ total a (buffered_snoops past) → stage_after setup a (Cause.Take host m) past (stage setup a past) ≡ Stage.Asked t)
    → Carries setup (Cause.Take host m) sends past
quiet_take setup host m past sends none no_ack stays back ahead = record {
  stays = λ a t st n. stays a t n;
  back = λ a t st. (back a t st, λ still. same t ∙ still);
  tags = λ t still. refl;
  ahead = λ t now. (sym (same t) ∙ now, λ a st n. ahead a t st n);
}
  where
    same : (t : ℕ) → conflict_after (Cause.Take host m) sends past t ≡ is_conflict_open t past
    same t = ap (λ b. not b && (sends_conflict t sends || is_conflict_open t past)) (no_ack t) ∙ ap (λ x. sends_conflict t x || is_conflict_open t past) none

-- a BI-ConflictAck ends the conflict of its tag alone
ack_after : (tag t : ℕ) (past : List Event) (sends : Sends) → sends ≡ Sends.Nothing → (b : Bool) → (not b && (sends_conflict t sends || is_conflict_open t past)) ≡ true → (b ≡ false) × (is_conflict_open t past ≡ true)
ack_after tag t past sends none true h = absurd (false≢true h)
ack_after tag t past sends none false h = (refl, sym (ap (λ x. sends_conflict t x || is_conflict_open t past) none) ∙ h)

ack_carries : (setup : Configuration) (host tag : ℕ) (past : List Event) (sends : Sends) → sends ≡ Sends.Nothing → Carries setup (Cause.Take host (Message.Ndr NdrOp.ConflictAck (record { 0 = tag }))) sends past
ack_carries setup host tag past sends none = record {
  stays = λ a t st n. n;
  back = λ a t st.
      let was = asked_before_ack tag t a past (stage setup a past) st in
      (was.0, λ still. ap (λ b. not b && (sends_conflict t sends || is_conflict_open t past)) was.1 ∙ or_right (sends_conflict t sends) (is_conflict_open t past) still);
  tags = λ t still. refl;
  ahead = λ t now.
      let was = ack_after tag t past sends none (tag == t) now in
      (was.1, λ a st n. ap (stage_after_ack tag a past) st ∙ cond-false (t == tag) (conflict_end (open_at a past)) (Stage.Asked t) (ne_eqb t tag (λ same. false≢true (sym was.0 ∙ eq-eqb tag t (sym same)))));
}

-- a snoop covers no line that is Asked
snoop_back : (b : Bool) (st : Stage) (t : ℕ) → cond b Stage.New st ≡ Stage.Asked t → st ≡ Stage.Asked t
snoop_back true st t h = cc
snoop_back false st t h = h

pub uncovered : (past : List Event) (a first : ℕ) (span : Span) → list_all (λ b. not (is_snooped b past)) (lines_of first span) ≡ true → 1 ≤ total a (buffered_snoops past) → covers first span a ≡ false
uncovered past a first span free n = uncovered_if (covers first span a) refl
  where
    uncovered_if : (b : Bool) → covers first span a ≡ b → b ≡ false
    uncovered_if true is =
        let here = all_holds (λ b. not (is_snooped b past)) a (lines_of first span) free (leb-true 1 (times a (lines_of first span)) (sym (covers-lines first a span) ∙ is)) in
        let none = not_snooped a past (not-true _ here) in
        absurd (omega arith)
    uncovered_if false is = refl

take_carries : (setup : Configuration) (h host : ℕ) (m : Message) (past : List Event) (w : Emission) (sends : Sends) → host_emission setup h (Cause.Take host m) past ≡ Some w → sends ≡ w.sends → Carries setup (Cause.Take host m) sends past
take_carries setup h host (Message.Req op meta snp tag line) past w sends row sent = absurd (none-some w (take_row setup h (Message.Req op meta snp tag line) past w row))
take_carries setup h host (Message.MemWr meta snp tag line bytes) past w sends row sent = absurd (none-some w (take_row setup h (Message.MemWr meta snp tag line bytes) past w row))
take_carries setup h host (Message.BiConflict tag) past w sends row sent = absurd (none-some w (take_row setup h (Message.BiConflict tag) past w row))
take_carries setup h host (Message.BiRsp op bitag low) past w sends row sent = absurd (none-some w (take_row setup h (Message.BiRsp op bitag low) past w row))
take_carries setup h host (Message.Ndr NdrOp.Cmp tag) past w sends row sent =
    quiet_take setup host (Message.Ndr NdrOp.Cmp tag) past sends (sent ∙ takes_send_nothing setup h (Message.Ndr NdrOp.Cmp tag) past w (take_row setup h (Message.Ndr NdrOp.Cmp tag) past w row))
    (λ t. refl) (λ a t n. n) (λ a t st. asked_before_completion setup tag.0 t (stage setup a past) st) (λ a t st n. ap (stage_after_completion setup tag.0) st)
take_carries setup h host (Message.Ndr NdrOp.CmpS tag) past w sends row sent =
    quiet_take setup host (Message.Ndr NdrOp.CmpS tag) past sends (sent ∙ takes_send_nothing setup h (Message.Ndr NdrOp.CmpS tag) past w (take_row setup h (Message.Ndr NdrOp.CmpS tag) past w row))
    (λ t. refl) (λ a t n. n) (λ a t st. st) (λ a t st n. st)
take_carries setup h host (Message.Ndr NdrOp.CmpE tag) past w sends row sent =
    quiet_take setup host (Message.Ndr NdrOp.CmpE tag) past sends (sent ∙ takes_send_nothing setup h (Message.Ndr NdrOp.CmpE tag) past w (take_row setup h (Message.Ndr NdrOp.CmpE tag) past w row))
    (λ t. refl) (λ a t n. n) (λ a t st. st) (λ a t st n. st)
take_carries setup h host (Message.Ndr NdrOp.ConflictAck tag) past w sends row sent =
    ack_carries setup host tag.0 past sends (sent ∙ takes_send_nothing setup h (Message.Ndr NdrOp.ConflictAck tag) past w (take_row setup h (Message.Ndr NdrOp.ConflictAck tag) past w row))
take_carries setup h host (Message.MemData tag bytes) past w sends row sent =
    quiet_take setup host (Message.MemData tag bytes) past sends (sent ∙ takes_send_nothing setup h (Message.MemData tag bytes) past w (take_row setup h (Message.MemData tag bytes) past w row))
    (λ t. refl) (λ a t n. n) (λ a t st. st) (λ a t st n. st)
take_carries setup h host (Message.BiSnp op bitag line span) past w sends row sent =
    let bare = take_row setup h (Message.BiSnp op bitag line span) past w row in
    let free = (when_some (list_all (λ a. not (is_snooped a past)) (lines_of line.0 span)) nothing w bare).0 in
    quiet_take setup host (Message.BiSnp op bitag line span) past sends (sent ∙ takes_send_nothing setup h (Message.BiSnp op bitag line span) past w bare)
    (λ t. refl) (λ a t n. take_stays a host (Message.BiSnp op bitag line span) past n) (λ a t st. snoop_back (covers line.0 span a) (stage setup a past) t st)
    (λ a t st n. cond-false (covers line.0 span a) Stage.New (stage setup a past) (uncovered past a line.0 span free n) ∙ st)
take_carries setup h host (Message.Credit c) past w sends row sent =
    quiet_take setup host (Message.Credit c) past sends (sent ∙ takes_send_nothing setup h (Message.Credit c) past w (take_row setup h (Message.Credit c) past w row))
    (λ t. refl) (λ a t n. n) (λ a t st. st) (λ a t st n. st)

-- an act that begins no conflict
quiet_act : (setup : Configuration) (h : ℕ) (act : Act) (past : List Event) (w : Emission) (sends : Sends) → host_emission setup h (Cause.Act act) past ≡ Some w → SnoopsKept (buffered_snoops past)
    → ((t : ℕ) → sends_conflict t sends ≡ false)
    → ((a t : ℕ) → stage_after setup a (Cause.Act act) past (stage setup a past) ≡ Stage.Asked t → stage setup a past ≡ Stage.Asked t)
    → ((a t : ℕ) → stage setup a past ≡ Stage.Asked t → stage_after setup a (Cause.Act act) past (stage setup a past) ≡ Stage.Asked t)
    → Carries setup (Cause.Act act) sends past
quiet_act setup h act past w sends row kept none back ahead = record {
  stays = λ a t st n. stays_snooped setup h a (Cause.Act act) past w row kept (held setup a t past st) n;
  back = λ a t st. (back a t st, λ still. or_right (sends_conflict t sends) (is_conflict_open t past) still);
  tags = λ t still. refl;
  ahead = λ t now. (or_none (sends_conflict t sends) (is_conflict_open t past) (none t) now, λ a st n. ahead a t st);
}

-- a write-back's line isn't Asked
writing_back : (b : Bool) (st : Stage) (t : ℕ) → cond b Stage.Writing st ≡ Stage.Asked t → st ≡ Stage.Asked t
writing_back true st t h = cc
writing_back false st t h = h

not_asked : (st : Stage) (t : ℕ) → is_new_or_late st ≡ true → st ≡ Stage.Asked t → ⊥
not_asked Stage.New t h k = cc
not_asked (Stage.Asked u) t h k = cc
not_asked Stage.Early t h k = cc
not_asked Stage.Late t h k = cc
not_asked Stage.Writing t h k = cc
not_asked Stage.Written t h k = cc

new_is_ready : (st : Stage) → is_new st ≡ true → is_new_or_late st ≡ true
new_is_ready Stage.New h = refl
new_is_ready (Stage.Asked u) h = cc
new_is_ready Stage.Early h = cc
new_is_ready Stage.Late h = cc
new_is_ready Stage.Writing h = cc
new_is_ready Stage.Written h = cc

other_line : (setup : Configuration) (past : List Event) (l a t : ℕ) → is_new_or_late (stage setup l past) ≡ true → stage setup a past ≡ Stage.Asked t → (l == a) ≡ false
other_line setup past l a t ready st = ne_eqb l a (λ same. not_asked (stage setup l past) t ready (ap (λ x. stage setup x past) same ∙ st))

write_back_carries : (setup : Configuration) (h l : ℕ) (past : List Event) (w : Emission) (sends : Sends) → host_emission setup h (Cause.Act (Act.WriteBack (record { 0 = l }))) past ≡ Some w → sends ≡ w.sends
    → SnoopsKept (buffered_snoops past) → Carries setup (Cause.Act (Act.WriteBack (record { 0 = l }))) sends past
write_back_carries setup h l past w sends row sent kept =
    let back = write_back_row setup h l past w row in
    quiet_act setup h (Act.WriteBack (record { 0 = l })) past w sends row kept (λ t. ap (sends_conflict t) (sent ∙ back.sent)) (λ a t st. writing_back (l == a) (stage setup a past) t st)
    (λ a t st. cond-false (l == a) Stage.Writing (stage setup a past) (other_line setup past l a t back.ready st) ∙ st)

-- a conflict that begins
began_there : (setup : Configuration) (l a t : ℕ) (past : List Event) (o : Transaction) (here : Bool) → (l == a) ≡ here → open_at l past ≡ Some o
    → cond here (Stage.Asked (option_map_or (λ (x : Transaction). x.tag) (open_at a past) 0)) (stage setup a past) ≡ Stage.Asked t
    → ((l ≡ a) × (o.tag ≡ t)) ⊎ (stage setup a past ≡ Stage.Asked t)
began_there setup l a t past o true is there st =
    let same = eqb-true l a is in
    let tag : option_map_or (λ (x : Transaction). x.tag) (open_at a past) 0 ≡ t = asked_same _ t st in
    inl (same, sym (ap (λ x. option_map_or (λ (y : Transaction). y.tag) x 0) (sym (ap (λ x. open_at x past) same) ∙ there)) ∙ tag)
  where
    asked_same : (n m : ℕ) → ◌≡◌ {A = Stage} (Stage.Asked n) (Stage.Asked m) → n ≡ m
    asked_same n m h = cc
began_there setup l a t past o false is there st = inr st

began : (setup : Configuration) (h l : ℕ) (past : List Event) (sends : Sends) → LeadBack setup (λ a. open_at a past) (λ b. tagged_line b past) → ConflictsAre setup past
    → ConflictRow setup h l past sends → ConflictsAfter setup (Cause.Act (Act.Conflict (record { 0 = l }))) sends past
began setup h l past sends lead inv row = record {
  asked = λ a t st.
      elim (began_there setup l a t past row.o (l == a) refl row.there st) [
        | inl is ↦
            let tags = lead l row.o row.there in
            record {
              named = ap (λ x. tagged_line x past) (sym is.1) ∙ tags.back ∙ ap Some is.0;
              snooped = subst (λ x. 1 ≤ total x (buffered_snoops past)) is.0 (snooped_counts l past row.snooped);
              still = or_left (sends_conflict t sends) (is_conflict_open t past) (sends_this t ∙ or_left (row.o.tag == t) false (eq-eqb row.o.tag t is.1));
              tag = subst (λ x. x < setup.tags) is.1 tags.tag;
              line = subst (λ x. x < setup.lines) is.0 tags.line;
            }
        | inr was ↦
            let old = inv.asked a t was in
            record { named = old.named; snooped = old.snooped; still = or_right (sends_conflict t sends) (is_conflict_open t past) old.still; tag = old.tag; line = old.line }
      ];
  found = λ t now.
      elim (or_cases (sends_conflict t sends) (is_conflict_open t past) now) [
        | inl this ↦ (
          l,
          cond-true (l == l) (Stage.Asked (option_map_or (λ (x : Transaction). x.tag) (open_at l past) 0)) (stage setup l past) (eq-eqb l l refl)
              ∙ ap (λ x. Stage.Asked (option_map_or (λ (y : Transaction). y.tag) x 0)) row.there ∙ ap Stage.Asked (eqb-true row.o.tag t (alone (row.o.tag == t) (sym (sends_this t) ∙ this))),
        )
        | inr was ↦
            let old = inv.found t was in
            (old.0, cond-false (l == old.0) (Stage.Asked (option_map_or (λ (x : Transaction). x.tag) (open_at old.0 past) 0)) (stage setup old.0 past) (other_line setup past l old.0 t (new_is_ready (stage setup l past) row.new) old.1) ∙ old.1)
      ];
}
  where
    sends_this : (t : ℕ) → sends_conflict t sends ≡ ((row.o.tag == t) || false)
    sends_this t = ap (sends_conflict t) row.sent

    alone : (b : Bool) → (b || false) ≡ true → b ≡ true
    alone true h = refl
    alone false h = h

-- by an act
act_conflicts : (setup : Configuration) (h : ℕ) (act : Act) (past : List Event) (w : Emission) (sends : Sends) → host_emission setup h (Cause.Act act) past ≡ Some w → sends ≡ w.sends
    → SnoopsKept (buffered_snoops past) → LeadBack setup (λ a. open_at a past) (λ b. tagged_line b past) → ConflictsAre setup past → ConflictsAfter setup (Cause.Act act) sends past
act_conflicts setup h (Act.Conflict line) past w sends row sent kept lead inv =
    began setup h line.0 past sends lead inv (subst (ConflictRow setup h line.0 past) (sym sent) (conflict_row setup h line.0 past w row))
act_conflicts setup h (Act.WriteBack line) past w sends row sent kept lead inv = carried setup (Cause.Act (Act.WriteBack line)) sends past inv (write_back_carries setup h line.0 past w sends row sent kept)
act_conflicts setup h (Act.Answer line) past w sends row sent kept lead inv =
    carried setup (Cause.Act (Act.Answer line)) sends past inv
    (quiet_act setup h (Act.Answer line) past w sends row kept (λ t. ap (sends_conflict t) (sent ∙ (answer_row setup h line.0 past w row).sent)) (λ a t st. st) (λ a t st. st))
act_conflicts setup h (Act.AnswerBlock line) past w sends row sent kept lead inv =
    carried setup (Cause.Act (Act.AnswerBlock line)) sends past inv
    (quiet_act setup h (Act.AnswerBlock line) past w sends row kept (λ t. ap (sends_conflict t) (sent ∙ (block_row setup h line.0 past w row).sent)) (λ a t st. st) (λ a t st. st))
act_conflicts setup h (Act.HostReturn c) past w sends row sent kept lead inv =
    carried setup (Cause.Act (Act.HostReturn c)) sends past inv
    (quiet_act setup h (Act.HostReturn c) past w sends row kept
    (λ t. ap (sends_conflict t) (sent ∙ ap sends_of (sym (when_some (host_returns c && nat_le 1 (host_owed h c past)) (one_send h (Message.Credit c)) w row).1))) (λ a t st. st) (λ a t st. st))
act_conflicts setup h (Act.Serve host tag) past w sends row sent kept lead inv = absurd (none-some w row)
act_conflicts setup h (Act.Clean host tag) past w sends row sent kept lead inv = absurd (none-some w row)
act_conflicts setup h (Act.Start host tag) past w sends row sent kept lead inv = absurd (none-some w row)
act_conflicts setup h (Act.Evict host tag) past w sends row sent kept lead inv = absurd (none-some w row)
act_conflicts setup h (Act.Snoop host line) past w sends row sent kept lead inv = absurd (none-some w row)
act_conflicts setup h (Act.Finish line) past w sends row sent kept lead inv = absurd (none-some w row)
act_conflicts setup h (Act.DeviceReturn host c) past w sends row sent kept lead inv = absurd (none-some w row)

cause_conflicts : (setup : Configuration) (h : ℕ) (cause : Cause) (past : List Event) (w : Emission) (sends : Sends) → host_emission setup h cause past ≡ Some w → sends ≡ w.sends
    → SnoopsKept (buffered_snoops past) → LeadBack setup (λ a. open_at a past) (λ b. tagged_line b past) → ConflictsAre setup past → ConflictsAfter setup cause sends past
cause_conflicts setup h (Cause.Op s i op) past w sends row sent kept lead inv =
    carried setup (Cause.Op s i op) sends past inv (op_carries setup h s i op past sends (subst (Operated setup h op past) (sym sent) (operated setup h s i op past w row)))
cause_conflicts setup h (Cause.Take host m) past w sends row sent kept lead inv = carried setup (Cause.Take host m) sends past inv (take_carries setup h host m past w sends row sent)
cause_conflicts setup h (Cause.Act act) past w sends row sent kept lead inv = act_conflicts setup h act past w sends row sent kept lead inv

pub conflicts_kept : (setup : Configuration) (opening : List (Line × Bytes64)) (h : ℕ) → is_device h ≡ false → (mine : List Event) → is_own_run setup opening h mine ≡ true → ConflictsAre setup mine
conflicts_kept setup opening h host [] run = record { asked = λ a t st. cc; found = λ t is. absurd (false≢true is) }
conflicts_kept setup opening h host (e ∷ past) run =
    let on = host_goes_on setup opening h host e past run in
    cause_conflicts setup h e.cause past on.step.w e.sends on.step.row on.step.sends (snoops_kept setup opening h host past on.before)
    (open_leads_back setup opening h host past on.before) (conflicts_kept setup opening h host past on.before)
