-- A list of events is a run, or the event at some place breaks a rule first; what the verdict says is which.
use Rattle.std.proofs.Common.{◌≡◌, ℕ, zero, suc, ◌+◌, Bool, true, false, List, [], ◌∷◌, length, reverse, take, Option, Some, None, refl, ap, sym, subst, ◌∙◌, arith, append-nil}
use Rattle.std.specs.Prelude.{slice_get}
use Rattle.std.proofs.lemmas.Bool.{and_from, false≢true}
use Rattle.std.proofs.lemmas.List.{length-reverse}
use Rattle.cxl_message.specs.declared.events.Event.{Event}
use Rattle.cxl_message.specs.declared.identifiers.Bytes64.{Bytes64}
use Rattle.cxl_message.specs.declared.identifiers.Line.{Line}
use Rattle.cxl_message.specs.declared.states.RuleNo.{RuleNo}
use Rattle.cxl_message.specs.Setup.{Configuration}
use Rattle.coherence_model.specs.Runs.{IsRun, first_broken, is_allowed, is_run}
use Rattle.coherence_model.specs.Traces.{history}
use Rattle.coherence_model.specs.Verdicts.{Verdict, verdict_after, verdict_on}
use Rattle.verdict_laws.specs.Laws.{BreaksAt, BrokenIsTold, RunIsTold, RunsWith}
use Rattle.verdict_laws.proofs.Checks.{broken_told, onto, onto_nothing, run_told, told_is_allowed}

-- ---- from the verdict to the events

-- further events after a run: they make a run, or the one at some place breaks a rule first
pub data Outcome (setup : Configuration) (opening : List (Line × Bytes64)) (past later : List Event) : Type 0 where
  AllRun : IsRun setup opening (onto later past) → Outcome setup opening past later
  OneBreaks :
      (n : ℕ) (e : Event) (rule : RuleNo) → slice_get later n ≡ Some e → IsRun setup opening (onto (take n later) past) → first_broken setup opening (onto (take n later) past) e ≡ Some rule
      → Outcome setup opening past later

-- with one more before them
outcome_after : (setup : Configuration) (opening : List (Line × Bytes64)) (past later : List Event) (e : Event) → Outcome setup opening (e ∷ past) later → Outcome setup opening past (e ∷ later)
outcome_after setup opening past later e (AllRun run) = AllRun run
outcome_after setup opening past later e (OneBreaks n f rule at run breaks) = OneBreaks (suc n) f rule at run breaks

-- by what the first of them breaks
outcome_by :
    (setup : Configuration) (opening : List (Line × Bytes64)) (past later : List Event) (e : Event) (o : Option RuleNo) → first_broken setup opening past e ≡ o → IsRun setup opening past
    → (IsRun setup opening (e ∷ past) → Outcome setup opening (e ∷ past) later) → Outcome setup opening past (e ∷ later)
outcome_by setup opening past later e None is run more =
    outcome_after setup opening past later e (more (and_from (is_run setup opening past) (is_allowed setup opening past e) run (told_is_allowed setup opening past e is)))
outcome_by setup opening past later e (Some rule) is run more = OneBreaks zero e rule refl run is

pub outcome : (setup : Configuration) (opening : List (Line × Bytes64)) (past later : List Event) → IsRun setup opening past → Outcome setup opening past later
outcome setup opening past [] run = AllRun run
outcome setup opening past (e ∷ later) run = outcome_by setup opening past later e (first_broken setup opening past e) refl run (outcome setup opening (e ∷ past) later)

-- ---- the laws

-- Run isn't Broken, and each has its own numbers
abbrev is_run_verdict : Verdict → Bool
is_run_verdict (Verdict.Run n k) = true
is_run_verdict (Verdict.Broken n rule) = false

abbrev events_in : Verdict → ℕ
events_in (Verdict.Run n k) = n
events_in (Verdict.Broken n rule) = n

abbrev commits_in : Verdict → ℕ
commits_in (Verdict.Run n k) = k
commits_in (Verdict.Broken n rule) = n

abbrev rule_in : Verdict → Option RuleNo
rule_in (Verdict.Run n k) = None
rule_in (Verdict.Broken n rule) = Some rule

-- the verdict on a run
pub whole_run : (setup : Configuration) (opening : List (Line × Bytes64)) (events : List Event) → IsRun setup opening (onto events []) → verdict_on setup opening events ≡ Verdict.Run (length events) (length (history (reverse events)))
whole_run setup opening events run =
    ap (verdict_after setup opening []) (sym (append-nil events)) ∙ run_told setup opening [] events [] run
    ∙ ap (λ (t : List Event). Verdict.Run (length t) (length (history t))) (onto_nothing events) ∙ ap (λ (n : ℕ). Verdict.Run n (length (history (reverse events)))) (length-reverse events)

-- the verdict on what breaks a rule
pub whole_broken :
    (setup : Configuration) (opening : List (Line × Bytes64)) (events : List Event) (n : ℕ) (e : Event) (rule : RuleNo) → slice_get events n ≡ Some e
    → IsRun setup opening (onto (take n events) []) → first_broken setup opening (onto (take n events) []) e ≡ Some rule → verdict_on setup opening events ≡ Verdict.Broken n rule
whole_broken setup opening events n e rule at run breaks =
    let whole : n + 0 ≡ n = omega arith in broken_told setup opening [] events n e rule at run breaks ∙ ap (λ (k : ℕ). Verdict.Broken k rule) whole

-- what Run says, by the outcome
pub run_says : (setup : Configuration) (opening : List (Line × Bytes64)) (events : List Event) (n k : ℕ) → Outcome setup opening [] events → verdict_on setup opening events ≡ Verdict.Run n k → RunsWith setup opening events n k
run_says setup opening events n k (AllRun run) told =
    let is = sym told ∙ whole_run setup opening events run in
    record { run = subst (IsRun setup opening) (onto_nothing events) run; all_events = ap events_in is; all_commits = ap commits_in is }
run_says setup opening events n k (OneBreaks m e rule at run breaks) told =
    absurd (false≢true (ap is_run_verdict (sym (whole_broken setup opening events m e rule at run breaks) ∙ told)))

-- and what Broken says
pub broken_says :
    (setup : Configuration) (opening : List (Line × Bytes64)) (events : List Event) (n : ℕ) (rule : RuleNo) → Outcome setup opening [] events → verdict_on setup opening events ≡ Verdict.Broken n rule
    → BreaksAt setup opening events n rule
broken_says setup opening events n rule (AllRun run) told = absurd (false≢true (ap is_run_verdict (sym told ∙ whole_run setup opening events run)))
broken_says setup opening events n rule (OneBreaks m e other at run breaks) told =
    let is = sym (whole_broken setup opening events m e other at run breaks) ∙ told in
    let place : m ≡ n = ap events_in is in
    let law : Some other ≡ Some rule = ap rule_in is in
    record {
      event = e;
      at = subst (λ (k : ℕ). slice_get events k ≡ Some e) place at;
      run = subst (λ (k : ℕ). IsRun setup opening (reverse (take k events))) place (subst (IsRun setup opening) (onto_nothing (take m events)) run);
      breaks = subst (λ (k : ℕ). first_broken setup opening (reverse (take k events)) e ≡ Some rule) place
          (ap (λ (t : List Event). first_broken setup opening t e) (sym (onto_nothing (take m events))) ∙ breaks ∙ law);
    }

pub run_is_told : RunIsTold
run_is_told setup opening events n k = (
  run_says setup opening events n k (outcome setup opening [] events refl),
  λ runs.
      whole_run setup opening events (subst (IsRun setup opening) (sym (onto_nothing events)) runs.run)
      ∙ ap (λ (m : ℕ). Verdict.Run m (length (history (reverse events)))) (sym runs.all_events) ∙ ap (Verdict.Run n) (sym runs.all_commits),
)

pub broken_is_told : BrokenIsTold
broken_is_told setup opening events n rule = (
  broken_says setup opening events n rule (outcome setup opening [] events refl),
  λ breaks.
      whole_broken setup opening events n breaks.event rule breaks.at (subst (IsRun setup opening) (sym (onto_nothing (take n events))) breaks.run)
      (ap (λ (t : List Event). first_broken setup opening t breaks.event) (onto_nothing (take n events)) ∙ breaks.breaks),
)
