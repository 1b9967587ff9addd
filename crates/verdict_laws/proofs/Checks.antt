-- The verdict on further events after a run, by recursion over these events.
use Rattle.std.proofs.Common.{◌≡◌, ℕ, zero, suc, ◌+◌, true, List, [], ◌∷◌, ◌++◌, length, reverse, take, Option, Some, None, refl, ap, sym, subst, ◌∙◌, arith, append-nil, append_assoc}
use Rattle.std.specs.Prelude.{is_none, slice_get}
use Rattle.std.proofs.lemmas.Bool.{and_parts}
use Rattle.std.proofs.lemmas.List.{reverse-append}
use Rattle.std.proofs.lemmas.Option.{none-some}
use Rattle.cxl_message.specs.declared.events.Event.{Event}
use Rattle.cxl_message.specs.declared.identifiers.Bytes64.{Bytes64}
use Rattle.cxl_message.specs.declared.identifiers.Line.{Line}
use Rattle.cxl_message.specs.declared.states.RuleNo.{RuleNo}
use Rattle.cxl_message.specs.Setup.{Configuration}
use Rattle.coherence_model.specs.Runs.{IsRun, first_broken, is_allowed, is_run}
use Rattle.coherence_model.specs.Verdicts.{Verdict, broken_or, verdict_after}
use Rattle.coherence_model.proofs.Allowed.{allowed_breaks_no_rule}
use Rattle.verdict_laws.specs.Laws.{CheckBreaks, CheckGoesOn}
use Rattle.coherence_lemmas.proofs.Options.{none_is}

-- events that come after a trace, oldest first, put onto it (own rule)
abbrev pub onto : List Event → List Event → List Event
onto [] past = past
onto (e ∷ later) past = onto later (e ∷ past)

-- so they stand reversed before it
onto_is : (later past : List Event) → onto later past ≡ reverse later ++ past
onto_is [] past = refl
onto_is (e ∷ later) past =
    onto_is later (e ∷ past) ∙ sym (ap (λ (xs : List Event). xs ++ past) (reverse-append (e ∷ []) later) ∙ append_assoc (reverse later) (e ∷ []) past)

-- onto nothing they are reversed
pub onto_nothing : (events : List Event) → onto events [] ≡ reverse events
onto_nothing events = onto_is events [] ∙ append-nil (reverse events)

-- ---- one event

-- an event that is allowed breaks no rule
allowed_is_told : (setup : Configuration) (opening : List (Line × Bytes64)) (past : List Event) (e : Event) → is_allowed setup opening past e ≡ true → first_broken setup opening past e ≡ None
allowed_is_told setup opening past e allowed = none_is (first_broken setup opening past e) (sym (allowed_breaks_no_rule setup opening past e) ∙ allowed)

-- and an event that breaks none is allowed
pub told_is_allowed : (setup : Configuration) (opening : List (Line × Bytes64)) (past : List Event) (e : Event) → first_broken setup opening past e ≡ None → is_allowed setup opening past e ≡ true
told_is_allowed setup opening past e none = allowed_breaks_no_rule setup opening past e ∙ ap is_none none

pub check_goes_on : CheckGoesOn
check_goes_on setup opening past later e none = ap (λ (o : Option RuleNo). broken_or (length past) o (verdict_after setup opening (e ∷ past) later)) none

pub check_breaks : CheckBreaks
check_breaks setup opening past later e rule some = ap (λ (o : Option RuleNo). broken_or (length past) o (verdict_after setup opening (e ∷ past) later)) some

-- ---- fronts

-- what stands before further events of a run is a run
front_runs : (setup : Configuration) (opening : List (Line × Bytes64)) (later past : List Event) → IsRun setup opening (onto later past) → IsRun setup opening past
front_runs setup opening [] past run = run
front_runs setup opening (e ∷ later) past run = (and_parts (is_run setup opening past) (is_allowed setup opening past e) (front_runs setup opening later (e ∷ past) run)).0

-- so its next event is allowed
next_allowed : (setup : Configuration) (opening : List (Line × Bytes64)) (later past : List Event) (e : Event) → IsRun setup opening (onto later (e ∷ past)) → is_allowed setup opening past e ≡ true
next_allowed setup opening later past e run = (and_parts (is_run setup opening past) (is_allowed setup opening past e) (front_runs setup opening later (e ∷ past) run)).1

-- ---- from the events to the verdict

-- where further events make a run the verdict is Run
pub run_told :
    (setup : Configuration) (opening : List (Line × Bytes64)) (past later rest : List Event) → IsRun setup opening (onto later past)
    → verdict_after setup opening past (later ++ rest) ≡ verdict_after setup opening (onto later past) rest
run_told setup opening past [] rest run = refl
run_told setup opening past (e ∷ later) rest run =
    check_goes_on setup opening past (later ++ rest) e (allowed_is_told setup opening past e (next_allowed setup opening later past e run))
    ∙ run_told setup opening (e ∷ past) later rest run

-- where the next one after so many breaks a rule the verdict is Broken
pub broken_told :
    (setup : Configuration) (opening : List (Line × Bytes64)) (past later : List Event) (n : ℕ) (e : Event) (rule : RuleNo) → slice_get later n ≡ Some e
    → IsRun setup opening (onto (take n later) past) → first_broken setup opening (onto (take n later) past) e ≡ Some rule
    → verdict_after setup opening past later ≡ Verdict.Broken (n + length past) rule
broken_told setup opening past [] n e rule at run breaks = absurd (none-some e at)
broken_told setup opening past (f ∷ later) zero e rule at run breaks =
    let same : f ≡ e = cc in
    let whole : length past ≡ zero + length past = omega arith in
    check_breaks setup opening past later f rule (subst (λ (x : Event). first_broken setup opening past x ≡ Some rule) (sym same) breaks) ∙ ap (λ (k : ℕ). Verdict.Broken k rule) whole
broken_told setup opening past (f ∷ later) (suc n) e rule at run breaks =
    let moved : n + suc (length past) ≡ suc n + length past = omega arith in
    check_goes_on setup opening past later f (allowed_is_told setup opening past f (next_allowed setup opening (take n later) past f run))
    ∙ broken_told setup opening (f ∷ past) later n e rule at run breaks ∙ ap (λ (k : ℕ). Verdict.Broken k rule) moved
