-- What a host keeps is of lines, tags and streams that exist.
use Rattle.std.proofs.Common.{Bool, IsTrue, List, [], ap, arith, cond, false, length, refl, suc, sym, true, zero, ℕ, ◌+◌, ◌<◌, ◌∙◌, ◌∷◌, ◌≡◌, ◌≤◌}
use Rattle.std.proofs.lemmas.Bool.{and_parts, and_right, cond-false, false≢true, leb-true, ltb-true, ne_eqb, or_from}
use Rattle.std.proofs.lemmas.Bool.Decides.{nat_tests}
use Rattle.std.specs.Option.{option_map_or}
use Rattle.std.specs.Prelude.{nat_le, nat_lt, not, slice_get, ◌==◌, ◌||◌}
use Rattle.cxl_message.specs.declared.events.Act.{Act}
use Rattle.cxl_message.specs.declared.events.Cause.{Cause}
use Rattle.cxl_message.specs.declared.events.Event.{Event}
use Rattle.cxl_message.specs.declared.identifiers.Bytes64.{Bytes64}
use Rattle.cxl_message.specs.declared.identifiers.Line.{Line}
use Rattle.cxl_message.specs.declared.messages.Message.{Message}
use Rattle.cxl_message.specs.declared.opcodes.NdrOp.{NdrOp}
use Rattle.cxl_message.specs.declared.opcodes.SnpOp.{SnpOp}
use Rattle.cxl_message.specs.declared.opcodes.Span.{Span}
use Rattle.cxl_message.specs.Codes.{span_len}
use Rattle.cxl_message.specs.Setup.{Configuration}
use Rattle.cxl_message.specs.Spans.{covers, lines_of}
use Rattle.coherence_model.specs.Fitting.{cause_fits, is_device}
use Rattle.coherence_model.specs.Snoops.{Snoop, buffered_snoops, is_snooped, is_whole_block, snoops_after}
use Rattle.coherence_model.specs.Stages.{Stage, stage, stage_after, stage_after_act, stage_after_ndr, stage_after_take}
use Rattle.coherence_model.specs.Streams.{begins_for, begun_count, commits_for, stream_waits}
use Rattle.request_laws.proofs.BufferedSnoops.{snooped-total, total, total-answer, total-append, total-cons, total-filter}
use Rattle.request_laws.proofs.Counts.{covers-lines, times}
use Rattle.coherence_model.specs.OwnRuns.{is_own_run}
use Rattle.host_laws.proofs.Keeps.{own_event, run_before}

-- lines past the end are not covered by a span that exists
far_covered : (setup : Configuration) (line : Line) (span : Span) (a : ℕ) → line.0 + span_len span ≤ setup.lines → setup.lines ≤ a → covers line.0 span a ≡ false
far_covered setup line span a within far = and_right (nat_le line.0 a) (nat_lt a (line.0 + span_len span)) (high a (line.0 + span_len span) (omega arith))
  where
    high : (m n : ℕ) → n ≤ m → nat_lt m n ≡ false
    high m n h = grind (arith, nat_tests)

span_within : (setup : Configuration) (h g : ℕ) (op : SnpOp) (bitag : Rattle.cxl_message.specs.declared.identifiers.BiTag.BiTag) (line : Line) (span : Span) → IsTrue (cause_fits setup h (Cause.Take g (Message.BiSnp op bitag line span))) → line.0 + span_len span ≤ setup.lines
span_within setup h g op bitag line span fits = leb-true (line.0 + span_len span) setup.lines (and_parts _ _ (and_parts _ _ fits).1).0

-- stages

ndr_new : (setup : Configuration) (op : NdrOp) (tag a : ℕ) (past : List Event) → stage_after_ndr setup op tag a past Stage.New ≡ Stage.New
ndr_new setup NdrOp.Cmp tag a past = refl
ndr_new setup NdrOp.CmpS tag a past = refl
ndr_new setup NdrOp.CmpE tag a past = refl
ndr_new setup NdrOp.ConflictAck tag a past = refl

take_new : (setup : Configuration) (h g a : ℕ) (m : Message) (past : List Event) → setup.lines ≤ a → stage_after_take setup a m past Stage.New ≡ Stage.New
take_new setup h g a (Message.Req _ _ _ _ _) past far = refl
take_new setup h g a (Message.MemWr _ _ _ _ _) past far = refl
take_new setup h g a (Message.BiConflict _) past far = refl
take_new setup h g a (Message.BiRsp _ _ _) past far = refl
take_new setup h g a (Message.Ndr op tag) past far = ndr_new setup op tag.0 a past
take_new setup h g a (Message.MemData _ _) past far = refl
take_new setup h g a (Message.BiSnp _ _ line span) past far = same (covers line.0 span a)
  where
    same : (b : Bool) → cond b Stage.New Stage.New ≡ Stage.New
    same true = refl
    same false = refl
take_new setup h g a (Message.Credit _) past far = refl

act_line : (setup : Configuration) (h a l : ℕ) (x : Stage) → nat_lt l setup.lines ≡ true → setup.lines ≤ a → cond (l == a) x Stage.New ≡ Stage.New
act_line setup h a l x low far = let less = ltb-true l setup.lines low in cond-false (l == a) x Stage.New (ne_eqb l a (λ same. omega arith))

act_new : (setup : Configuration) (h a : ℕ) (act : Act) (past : List Event) → IsTrue (cause_fits setup h (Cause.Act act)) → setup.lines ≤ a → stage_after_act a act past Stage.New ≡ Stage.New
act_new setup h a (Act.Conflict line) past fits far = act_line setup h a line.0 _ (and_parts _ _ fits).1 far
act_new setup h a (Act.WriteBack line) past fits far = act_line setup h a line.0 _ (and_parts _ _ fits).1 far
act_new setup h a (Act.Answer _) past fits far = refl
act_new setup h a (Act.AnswerBlock _) past fits far = refl
act_new setup h a (Act.HostReturn _) past fits far = refl
act_new setup h a (Act.Serve _ _) past fits far = refl
act_new setup h a (Act.Clean _ _) past fits far = refl
act_new setup h a (Act.Start _ _) past fits far = refl
act_new setup h a (Act.Evict _ _) past fits far = refl
act_new setup h a (Act.Snoop _ _) past fits far = refl
act_new setup h a (Act.Finish _) past fits far = refl
act_new setup h a (Act.DeviceReturn _ _) past fits far = refl

cause_new : (setup : Configuration) (h a : ℕ) (cause : Cause) (past : List Event) → IsTrue (cause_fits setup h cause) → setup.lines ≤ a → stage_after setup a cause past Stage.New ≡ Stage.New
cause_new setup h a (Cause.Op s i op) past fits far = refl
cause_new setup h a (Cause.Take g m) past fits far = take_new setup h g a m past far
cause_new setup h a (Cause.Act act) past fits far = act_new setup h a act past fits far

-- snooped lines

few_times : (n : ℕ) → nat_le 1 n ≡ false → n ≡ 0
few_times n h = grind (arith, nat_tests)

total_one : (a : ℕ) (s : Snoop) → total a (s ∷ []) ≡ times a s.unanswered
total_one a s = let sum = total-cons a s [] in let none : times a s.unanswered + 0 ≡ times a s.unanswered = omega arith in sum ∙ none

snoops_far : (setup : Configuration) (h a : ℕ) (cause : Cause) (old : List Snoop) → IsTrue (cause_fits setup h cause) → setup.lines ≤ a → total a old ≡ 0 → total a (snoops_after cause old) ≡ 0
snoops_far setup h a (Cause.Op s i op) old fits far none = none
snoops_far setup h a (Cause.Take g m) old fits far none = take m fits
  where
    take : (m : Message) → IsTrue (cause_fits setup h (Cause.Take g m)) → total a (snoops_after (Cause.Take g m) old) ≡ 0
    take (Message.Req _ _ _ _ _) f = none
    take (Message.MemWr _ _ _ _ _) f = none
    take (Message.BiConflict _) f = none
    take (Message.BiRsp _ _ _) f = none
    take (Message.Ndr _ _) f = none
    take (Message.MemData _ _) f = none
    take (Message.BiSnp op bitag line span) f =
        let s : Snoop = record { op = op; first = line.0; span = span; unanswered = lines_of line.0 span } in
        let sum = total-append a old (s ∷ []) in
        let one = total_one a s in
        let out = few_times (times a (lines_of line.0 span)) (sym (covers-lines line.0 a span) ∙ far_covered setup line span a (span_within setup h g op bitag line span f) far) in
        omega arith
    take (Message.Credit _) f = none
snoops_far setup h a (Cause.Act act) old fits far none = does act
  where
    does : (act : Act) → total a (snoops_after (Cause.Act act) old) ≡ 0
    does (Act.Conflict _) = none
    does (Act.WriteBack _) = none
    does (Act.Answer line) = let less = total-answer a line.0 old in omega arith
    does (Act.AnswerBlock line) = let less = total-filter a (λ s. not (is_whole_block line.0 s)) old in omega arith
    does (Act.HostReturn _) = none
    does (Act.Serve _ _) = none
    does (Act.Clean _ _) = none
    does (Act.Start _ _) = none
    does (Act.Evict _ _) = none
    does (Act.Snoop _ _) = none
    does (Act.Finish _) = none
    does (Act.DeviceReturn _ _) = none

-- streams

get_far : (xs : List ℕ) (k h : ℕ) → option_map_or (λ g. g == h) (slice_get xs k) false ≡ true → k < length xs
get_far [] k h there = absurd (false≢true there)
get_far (x ∷ xs) zero h there = omega arith
get_far (x ∷ xs) (suc k) h there = let less = get_far xs k h there in omega arith

begins_far : (setup : Configuration) (h s : ℕ) (cause : Cause) → IsTrue (cause_fits setup h cause) → length setup.streams ≤ s → begins_for s cause ≡ false
begins_far setup h s (Cause.Op stream i op) fits far =
    let less = get_far setup.streams stream h (and_parts _ _ (and_parts _ _ fits).0).1 in
    let none : stream ≡ s → ⊥ = λ same. omega (arith, less, same, far) in ne_eqb stream s none
begins_far setup h s (Cause.Take g m) fits far = refl
begins_far setup h s (Cause.Act act) fits far = refl

-- what is out of range is as at first
pub record Ranges (setup : Configuration) (mine : List Event) : Type 0 where
  pub stages : (a : ℕ) → setup.lines ≤ a → stage setup a mine ≡ Stage.New
  pub snooped : (a : ℕ) → setup.lines ≤ a → total a (buffered_snoops mine) ≡ 0
  pub begun : (s : ℕ) → length setup.streams ≤ s → begun_count s mine ≡ 0
  pub waits : (s : ℕ) → length setup.streams ≤ s → stream_waits s mine ≡ false

ranges_step : (setup : Configuration) (h : ℕ) (e : Event) (mine : List Event) → IsTrue (cause_fits setup h e.cause) → Ranges setup mine → Ranges setup (e ∷ mine)
ranges_step setup h e mine fits k = record {
  stages = λ a far. ap (stage_after setup a e.cause mine) (k.stages a far) ∙ cause_new setup h a e.cause mine fits far;
  snooped = λ a far. snoops_far setup h a e.cause (buffered_snoops mine) fits far (k.snooped a far);
  begun = λ s far. ap (λ b. cond b 1 0 + begun_count s mine) (begins_far setup h s e.cause fits far) ∙ none (begun_count s mine) (k.begun s far);
  waits = λ s far. and_right (not (commits_for s e.commit)) (begins_for s e.cause || stream_waits s mine) (or_from (begins_for s e.cause) (stream_waits s mine) (begins_far setup h s e.cause fits far) (k.waits s far));
}
  where
    none : (n : ℕ) → n ≡ 0 → 0 + n ≡ 0
    none n h = omega arith

pub ranges : (setup : Configuration) (opening : List (Line × Bytes64)) (h : ℕ) → is_device h ≡ false → (mine : List Event) → is_own_run setup opening h mine ≡ true → Ranges setup mine
ranges setup opening h host [] run = record { stages = λ a far. refl; snooped = λ a far. refl; begun = λ s far. refl; waits = λ s far. refl }
ranges setup opening h host (e ∷ past) run = ranges_step setup h e past (own_event setup opening h host e past run).fits (ranges setup opening h host past (run_before setup opening h e past run))

pub unsnooped_far : (setup : Configuration) (mine : List Event) → Ranges setup mine → (a : ℕ) → setup.lines ≤ a → is_snooped a mine ≡ false
unsnooped_far setup mine k a far = snooped-total a (buffered_snoops mine) ∙ ap (nat_le 1) (k.snooped a far)
