-- The write-back tag is in use just where one snooped line is at stage Writing: by recursion over a host's own events.
use Rattle.std.proofs.Common.{◌≡◌, ℕ, ◌≤◌, ◌<◌, Bool, true, false, List, [], ◌∷◌, Some, cond, refl, sym, ◌∙◌, ap, subst}
use Rattle.std.specs.Prelude.{is_some, not, ◌&&◌, ◌==◌, ◌||◌}
use Rattle.std.specs.List.{list_all}
use Rattle.std.proofs.lemmas.Bool.{and_parts, cond-false, cond-true, eq-eqb, eqb-true, false≢true, ltb-true, ne_eqb}
use Rattle.std.proofs.lemmas.Option.{none-some}
use Rattle.cxl_message.specs.declared.events.Act.{Act}
use Rattle.cxl_message.specs.declared.events.Cause.{Cause}
use Rattle.cxl_message.specs.declared.events.Event.{Event}
use Rattle.cxl_message.specs.declared.identifiers.Bytes64.{Bytes64}
use Rattle.cxl_message.specs.declared.identifiers.Line.{Line}
use Rattle.cxl_message.specs.declared.messages.Message.{Message}
use Rattle.cxl_message.specs.declared.opcodes.NdrOp.{NdrOp}
use Rattle.cxl_message.specs.Setup.{Configuration}
use Rattle.cxl_message.specs.Spans.{covers, lines_of}
use Rattle.coherence_model.specs.Emission.{Emission, nothing}
use Rattle.coherence_model.specs.Fitting.{cause_fits, is_device}
use Rattle.coherence_model.specs.HostRows.{host_emission}
use Rattle.coherence_model.specs.Snoops.{buffered_snoops, is_snooped, snoops_after}
use Rattle.coherence_model.specs.Stages.{Stage, conflict_end, is_new, stage, stage_after, stage_after_ack, stage_after_completion, was_completed}
use Rattle.coherence_model.specs.Transactions.{open_at}
use Rattle.coherence_model.specs.WriteBacks.{is_write_back, is_write_back_open, takes_completion}
use Rattle.request_laws.proofs.BufferedSnoops.{total}
use Rattle.request_laws.proofs.Conflicts.{uncovered}
use Rattle.request_laws.proofs.HostTakes.{conflict_row, take_row, write_back_row}
use Rattle.request_laws.proofs.Options.{when_some}
use Rattle.request_laws.proofs.OwnRuns.{host_goes_on}
use Rattle.request_laws.proofs.SnoopsKept.{SnoopsKept, is_held, snooped_counts, snoops_kept, stays_snooped}
use Rattle.coherence_model.specs.OwnRuns.{is_own_run}

-- a line at stage Writing is snooped, and the write-back tag is in use
pub record Writes (setup : Configuration) (a : ℕ) (count : ℕ) (writing : Bool) : Type 0 where
  pub snooped : 1 ≤ count
  pub still : writing ≡ true
  pub line : a < setup.lines

-- write-backs by stages, snoops and whether the tag is in use: one line is at stage Writing at most
pub record WritesKept (setup : Configuration) (stages : ℕ → Stage) (counts : ℕ → ℕ) (writing : Bool) : Type 0 where
  pub written : (a : ℕ) → stages a ≡ Stage.Writing → Writes setup a (counts a) writing
  pub found : writing ≡ true → (a : ℕ) × (stages a ≡ Stage.Writing)
  pub alone : (a b : ℕ) → stages a ≡ Stage.Writing → stages b ≡ Stage.Writing → a ≡ b

abbrev pub WritesAre : Configuration → List Event → Type 0
WritesAre setup past = WritesKept setup (λ a. stage setup a past) (λ a. total a (buffered_snoops past)) (is_write_back_open setup past)

abbrev WritesAfter : Configuration → Cause → List Event → Type 0
WritesAfter setup cause past =
    WritesKept setup (λ a. stage_after setup a cause past (stage setup a past)) (λ a. total a (snoops_after cause (buffered_snoops past)))
    (not (takes_completion setup.tags cause) && (is_write_back cause || is_write_back_open setup past))

-- an event that begins and ends no write-back
record Carries (setup : Configuration) (cause : Cause) (past : List Event) : Type 0 where
  same : (not (takes_completion setup.tags cause) && (is_write_back cause || is_write_back_open setup past)) ≡ is_write_back_open setup past
  back : (a : ℕ) → stage_after setup a cause past (stage setup a past) ≡ Stage.Writing → stage setup a past ≡ Stage.Writing
  ahead : (a : ℕ) → stage setup a past ≡ Stage.Writing → 1 ≤ total a (buffered_snoops past) → stage_after setup a cause past (stage setup a past) ≡ Stage.Writing

carried : (setup : Configuration) (h : ℕ) (cause : Cause) (past : List Event) (w : Emission) → host_emission setup h cause past ≡ Some w → SnoopsKept (buffered_snoops past)
    → WritesAre setup past → Carries setup cause past → WritesAfter setup cause past
carried setup h cause past w row kept inv c = record {
  written = λ a st.
      let was = c.back a st in
      let old = inv.written a was in
      record { snooped = stays_snooped setup h a cause past w row kept (ap is_held was) old.snooped; still = c.same ∙ old.still; line = old.line };
  found = λ now.
      let old = inv.found (sym c.same ∙ now) in
      (old.0, c.ahead old.0 old.1 (inv.written old.0 old.1).snooped);
  alone = λ a b st st'. inv.alone a b (c.back a st) (c.back b st');
}

-- stages
no_end_writes : (b : Bool) → cond b Stage.Late Stage.Early ≡ Stage.Writing → ⊥
no_end_writes true h = cc
no_end_writes false h = cc

ack_back : (tag a : ℕ) (past : List Event) (st : Stage) → stage_after_ack tag a past st ≡ Stage.Writing → st ≡ Stage.Writing
ack_back tag a past Stage.New h = h
ack_back tag a past (Stage.Asked u) h = asked (u == tag) h
  where
    asked : (b : Bool) → cond b (conflict_end (open_at a past)) (Stage.Asked u) ≡ Stage.Writing → Stage.Asked u ≡ Stage.Writing
    asked true k = absurd (no_end_writes (was_completed (open_at a past)) k)
    asked false k = k
ack_back tag a past Stage.Early h = h
ack_back tag a past Stage.Late h = h
ack_back tag a past Stage.Writing h = h
ack_back tag a past Stage.Written h = h

completion_back : (setup : Configuration) (tag : ℕ) (st : Stage) → stage_after_completion setup tag st ≡ Stage.Writing → (st ≡ Stage.Writing) × ((tag == setup.tags) ≡ false)
completion_back setup tag Stage.New h = cc
completion_back setup tag (Stage.Asked u) h = cc
completion_back setup tag Stage.Early h = cc
completion_back setup tag Stage.Late h = cc
completion_back setup tag Stage.Writing h = other (tag == setup.tags) h
  where
    other : (b : Bool) → cond b Stage.Written Stage.Writing ≡ Stage.Writing → (Stage.Writing ≡ Stage.Writing) × (b ≡ false)
    other true k = cc
    other false k = (refl, refl)
completion_back setup tag Stage.Written h = cc

-- a Cmp ends the write-back where it has its tag
completed : (setup : Configuration) (host tag : ℕ) (past : List Event) → WritesAre setup past → (ends : Bool) → (tag == setup.tags) ≡ ends
    → WritesKept setup (λ a. stage_after_completion setup tag (stage setup a past)) (λ a. total a (buffered_snoops past)) (not ends && (false || is_write_back_open setup past))
completed setup host tag past inv true is = record {
  written = λ a st. absurd (false≢true (sym (completion_back setup tag (stage setup a past) st).1 ∙ is));
  found = λ now. absurd (false≢true now);
  alone = λ a b st st'. absurd (false≢true (sym (completion_back setup tag (stage setup a past) st).1 ∙ is));
}
completed setup host tag past inv false is = record {
  written = λ a st. let old = inv.written a (completion_back setup tag (stage setup a past) st).0 in record { snooped = old.snooped; still = old.still; line = old.line };
  found = λ now. let old = inv.found now in (old.0, ap (stage_after_completion setup tag) old.1 ∙ cond-false (tag == setup.tags) Stage.Written Stage.Writing is);
  alone = λ a b st st'. inv.alone a b (completion_back setup tag (stage setup a past) st).0 (completion_back setup tag (stage setup b past) st').0;
}

new_back : (b : Bool) (st : Stage) → cond b Stage.New st ≡ Stage.Writing → st ≡ Stage.Writing
new_back true st h = cc
new_back false st h = h

take_writes : (setup : Configuration) (h host : ℕ) (m : Message) (past : List Event) (w : Emission) → host_emission setup h (Cause.Take host m) past ≡ Some w → SnoopsKept (buffered_snoops past)
    → WritesAre setup past → WritesAfter setup (Cause.Take host m) past
take_writes setup h host (Message.Req op meta snp tag line) past w row kept inv = absurd (none-some w (take_row setup h (Message.Req op meta snp tag line) past w row))
take_writes setup h host (Message.MemWr meta snp tag line bytes) past w row kept inv = absurd (none-some w (take_row setup h (Message.MemWr meta snp tag line bytes) past w row))
take_writes setup h host (Message.BiConflict tag) past w row kept inv = absurd (none-some w (take_row setup h (Message.BiConflict tag) past w row))
take_writes setup h host (Message.BiRsp op bitag low) past w row kept inv = absurd (none-some w (take_row setup h (Message.BiRsp op bitag low) past w row))
take_writes setup h host (Message.Ndr NdrOp.Cmp tag) past w row kept inv = completed setup host tag.0 past inv (tag.0 == setup.tags) refl
take_writes setup h host (Message.Ndr NdrOp.CmpS tag) past w row kept inv = carried setup h (Cause.Take host (Message.Ndr NdrOp.CmpS tag)) past w row kept inv (record { same = refl; back = λ a st. st; ahead = λ a st n. st })
take_writes setup h host (Message.Ndr NdrOp.CmpE tag) past w row kept inv = carried setup h (Cause.Take host (Message.Ndr NdrOp.CmpE tag)) past w row kept inv (record { same = refl; back = λ a st. st; ahead = λ a st n. st })
take_writes setup h host (Message.Ndr NdrOp.ConflictAck tag) past w row kept inv =
    carried setup h (Cause.Take host (Message.Ndr NdrOp.ConflictAck tag)) past w row kept inv
    (record { same = refl; back = λ a st. ack_back tag.0 a past (stage setup a past) st; ahead = λ a st n. ap (stage_after_ack tag.0 a past) st })
take_writes setup h host (Message.MemData tag bytes) past w row kept inv = carried setup h (Cause.Take host (Message.MemData tag bytes)) past w row kept inv (record { same = refl; back = λ a st. st; ahead = λ a st n. st })
take_writes setup h host (Message.BiSnp op bitag line span) past w row kept inv =
    let free = (when_some (list_all (λ a. not (is_snooped a past)) (lines_of line.0 span)) nothing w (take_row setup h (Message.BiSnp op bitag line span) past w row)).0 in
    carried setup h (Cause.Take host (Message.BiSnp op bitag line span)) past w row kept inv
    (record {
      same = refl;
      back = λ a st. new_back (covers line.0 span a) (stage setup a past) st;
      ahead = λ a st n. cond-false (covers line.0 span a) Stage.New (stage setup a past) (uncovered past a line.0 span free n) ∙ st;
    })
take_writes setup h host (Message.Credit c) past w row kept inv = carried setup h (Cause.Take host (Message.Credit c)) past w row kept inv (record { same = refl; back = λ a st. st; ahead = λ a st n. st })

-- a write-back that begins
began_here : (l a : ℕ) (old : Stage) (here : Bool) → (l == a) ≡ here → cond here Stage.Writing old ≡ Stage.Writing → (old ≡ Stage.Writing → ⊥) → l ≡ a
began_here l a old true is st none = eqb-true l a is
began_here l a old false is st none = absurd (none st)

began : (setup : Configuration) (l : ℕ) (past : List Event) → WritesAre setup past → is_write_back_open setup past ≡ false → is_snooped l past ≡ true → l < setup.lines
    → WritesAfter setup (Cause.Act (Act.WriteBack (record { 0 = l }))) past
began setup l past inv free snooped line = record {
  written = λ a st.
      let same = began_here l a (stage setup a past) (l == a) refl st (none a) in
      record { snooped = subst (λ x. 1 ≤ total x (buffered_snoops past)) same (snooped_counts l past snooped); still = refl; line = subst (λ x. x < setup.lines) same line };
  found = λ now. (l, cond-true (l == l) Stage.Writing (stage setup l past) (eq-eqb l l refl));
  alone = λ a b st st'. sym (began_here l a (stage setup a past) (l == a) refl st (none a)) ∙ began_here l b (stage setup b past) (l == b) refl st' (none b);
}
  where
    none : (a : ℕ) → stage setup a past ≡ Stage.Writing → ⊥
    none a st = false≢true (sym free ∙ (inv.written a st).still)

asked_back : (b : Bool) (t : ℕ) (st : Stage) → cond b (Stage.Asked t) st ≡ Stage.Writing → st ≡ Stage.Writing
asked_back true t st h = cc
asked_back false t st h = h

not_writing : (st : Stage) → is_new st ≡ true → st ≡ Stage.Writing → ⊥
not_writing Stage.New h k = cc
not_writing (Stage.Asked t) h k = cc
not_writing Stage.Early h k = cc
not_writing Stage.Late h k = cc
not_writing Stage.Writing h k = cc
not_writing Stage.Written h k = cc

act_writes : (setup : Configuration) (h : ℕ) (act : Act) (past : List Event) (w : Emission) → host_emission setup h (Cause.Act act) past ≡ Some w → cause_fits setup h (Cause.Act act) ≡ true → SnoopsKept (buffered_snoops past)
    → WritesAre setup past → WritesAfter setup (Cause.Act act) past
act_writes setup h (Act.Conflict line) past w row fits kept inv =
    let conflict = conflict_row setup h line.0 past w row in
    carried setup h (Cause.Act (Act.Conflict line)) past w row kept inv
    (record {
      same = refl;
      back = λ a st. asked_back (line.0 == a) _ (stage setup a past) st;
      ahead = λ a st n. cond-false (line.0 == a) _ (stage setup a past) (ne_eqb line.0 a (λ same. not_writing (stage setup line.0 past) conflict.new (ap (λ x. stage setup x past) same ∙ st))) ∙ st;
    })
act_writes setup h (Act.WriteBack line) past w row fits kept inv =
    let back = write_back_row setup h line.0 past w row in
    began setup line.0 past inv back.free (ap is_some back.there) (ltb-true line.0 setup.lines (and_parts _ _ fits).1)
act_writes setup h (Act.Answer line) past w row fits kept inv = carried setup h (Cause.Act (Act.Answer line)) past w row kept inv (record { same = refl; back = λ a st. st; ahead = λ a st n. st })
act_writes setup h (Act.AnswerBlock line) past w row fits kept inv = carried setup h (Cause.Act (Act.AnswerBlock line)) past w row kept inv (record { same = refl; back = λ a st. st; ahead = λ a st n. st })
act_writes setup h (Act.HostReturn c) past w row fits kept inv = carried setup h (Cause.Act (Act.HostReturn c)) past w row kept inv (record { same = refl; back = λ a st. st; ahead = λ a st n. st })
act_writes setup h (Act.Serve host tag) past w row fits kept inv = absurd (none-some w row)
act_writes setup h (Act.Clean host tag) past w row fits kept inv = absurd (none-some w row)
act_writes setup h (Act.Start host tag) past w row fits kept inv = absurd (none-some w row)
act_writes setup h (Act.Evict host tag) past w row fits kept inv = absurd (none-some w row)
act_writes setup h (Act.Snoop host line) past w row fits kept inv = absurd (none-some w row)
act_writes setup h (Act.Finish line) past w row fits kept inv = absurd (none-some w row)
act_writes setup h (Act.DeviceReturn host c) past w row fits kept inv = absurd (none-some w row)

cause_writes : (setup : Configuration) (h : ℕ) (cause : Cause) (past : List Event) (w : Emission) → host_emission setup h cause past ≡ Some w → cause_fits setup h cause ≡ true → SnoopsKept (buffered_snoops past)
    → WritesAre setup past → WritesAfter setup cause past
cause_writes setup h (Cause.Op s i op) past w row fits kept inv = carried setup h (Cause.Op s i op) past w row kept inv (record { same = refl; back = λ a st. st; ahead = λ a st n. st })
cause_writes setup h (Cause.Take host m) past w row fits kept inv = take_writes setup h host m past w row kept inv
cause_writes setup h (Cause.Act act) past w row fits kept inv = act_writes setup h act past w row fits kept inv

pub writes_kept : (setup : Configuration) (opening : List (Line × Bytes64)) (h : ℕ) → is_device h ≡ false → (mine : List Event) → is_own_run setup opening h mine ≡ true → WritesAre setup mine
writes_kept setup opening h host [] run = record { written = λ a st. cc; found = λ is. absurd (false≢true is); alone = λ a b st st'. cc }
writes_kept setup opening h host (e ∷ past) run =
    let on = host_goes_on setup opening h host e past run in
    cause_writes setup h e.cause past on.step.w on.step.row on.step.fits (snoops_kept setup opening h host past on.before) (writes_kept setup opening h host past on.before)
