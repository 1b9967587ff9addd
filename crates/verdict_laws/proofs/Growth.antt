-- The verdict on a list that grows: past a run it is that on the rest, and what is broken stays so.
use Rattle.std.proofs.Common.{◌≡◌, ℕ, zero, suc, ◌+◌, List, [], ◌∷◌, ◌++◌, length, reverse, take, Option, Some, None, refl, ap, sym, subst, ◌∙◌, arith}
use Rattle.std.specs.Prelude.{option_to_list, slice_get}
use Rattle.std.specs.Option.{option_len}
use Rattle.std.proofs.lemmas.List.{length-reverse}
use Rattle.std.proofs.lemmas.Option.{none-some}
use Rattle.cxl_message.specs.declared.events.Commit.{Commit}
use Rattle.cxl_message.specs.declared.events.Event.{Event}
use Rattle.cxl_message.specs.declared.identifiers.Bytes64.{Bytes64}
use Rattle.cxl_message.specs.declared.identifiers.Line.{Line}
use Rattle.cxl_message.specs.declared.states.RuleNo.{RuleNo}
use Rattle.cxl_message.specs.Setup.{Configuration}
use Rattle.coherence_model.specs.Runs.{IsRun, first_broken}
use Rattle.coherence_model.specs.Traces.{history}
use Rattle.coherence_model.specs.Verdicts.{Verdict, broken_or, verdict_after, verdict_on}
use Rattle.verdict_laws.specs.Laws.{BrokenStays, OneMoreIsTold, VerdictGoesOn, with_one_more}
use Rattle.verdict_laws.proofs.Checks.{check_breaks, check_goes_on, onto_nothing, run_told}
use Rattle.verdict_laws.proofs.Verdicts.{AllRun, OneBreaks, Outcome, broken_is_told, outcome, whole_broken, whole_run}

pub verdict_goes_on : VerdictGoesOn
verdict_goes_on setup opening front later run =
    run_told setup opening [] front later (subst (IsRun setup opening) (sym (onto_nothing front)) run) ∙ ap (λ (t : List Event). verdict_after setup opening t later) (onto_nothing front)

-- a list's front and element stay when more is put behind
get_front : (xs ys : List Event) (n : ℕ) (x : Event) → slice_get xs n ≡ Some x → slice_get (xs ++ ys) n ≡ Some x
get_front [] ys n x is = absurd (none-some x is)
get_front (y ∷ xs) ys zero x is = is
get_front (y ∷ xs) ys (suc n) x is = get_front xs ys n x is

take_front : (xs ys : List Event) (n : ℕ) (x : Event) → slice_get xs n ≡ Some x → take n (xs ++ ys) ≡ take n xs
take_front [] ys n x is = absurd (none-some x is)
take_front (y ∷ xs) ys zero x is = refl
take_front (y ∷ xs) ys (suc n) x is = ap (λ (zs : List Event). y ∷ zs) (take_front xs ys n x is)

pub broken_stays : BrokenStays
broken_stays setup opening events more n rule told =
    let breaks = (broken_is_told setup opening events n rule).0 told in
    let front = take_front events more n breaks.event breaks.at in
    (broken_is_told setup opening (events ++ more) n rule).1 (record {
      event = breaks.event;
      at = get_front events more n breaks.event breaks.at;
      run = subst (λ (xs : List Event). IsRun setup opening (reverse xs)) (sym front) breaks.run;
      breaks = ap (λ (xs : List Event). first_broken setup opening (reverse xs) breaks.event) front ∙ breaks.breaks;
    })

-- how many commits there are with one more event
commits_more : (o : Option Commit) (t : List Commit) → length (option_to_list o ++ t) ≡ length t + option_len o
commits_more None t = omega arith
commits_more (Some c) t = omega arith

-- one more event after a run, by what it breaks
more_by :
    (setup : Configuration) (opening : List (Line × Bytes64)) (past : List Event) (e : Event) (n : ℕ) → length past ≡ n → (o : Option RuleNo) → first_broken setup opening past e ≡ o
    → verdict_after setup opening past (e ∷ []) ≡ broken_or n o (Verdict.Run (n + 1) (length (history past) + option_len e.commit))
more_by setup opening past e n long None is =
    let one : suc (length past) ≡ n + 1 = omega (arith, long) in
    check_goes_on setup opening past [] e is ∙ ap (λ (k : ℕ). Verdict.Run k (length (history (e ∷ past)))) one ∙ ap (Verdict.Run (n + 1)) (commits_more e.commit (history past))
more_by setup opening past e n long (Some rule) is = check_breaks setup opening past [] e rule is ∙ ap (λ (k : ℕ). Verdict.Broken k rule) long

-- by the outcome of those before
one_more_by :
    (setup : Configuration) (opening : List (Line × Bytes64)) (events : List Event) (e : Event) → Outcome setup opening [] events
    → verdict_on setup opening (events ++ e ∷ []) ≡ with_one_more (verdict_on setup opening events) (first_broken setup opening (reverse events) e) e
one_more_by setup opening events e (AllRun run) =
    let runs = subst (IsRun setup opening) (onto_nothing events) run in
    verdict_goes_on setup opening events (e ∷ []) runs
    ∙ more_by setup opening (reverse events) e (length events) (length-reverse events) (first_broken setup opening (reverse events) e) refl
    ∙ ap (λ (v : Verdict). with_one_more v (first_broken setup opening (reverse events) e) e) (sym (whole_run setup opening events run))
one_more_by setup opening events e (OneBreaks n f rule at run breaks) =
    let told = whole_broken setup opening events n f rule at run breaks in
    broken_stays setup opening events (e ∷ []) n rule told ∙ ap (λ (v : Verdict). with_one_more v (first_broken setup opening (reverse events) e) e) (sym told)

pub one_more_is_told : OneMoreIsTold
one_more_is_told setup opening events e = one_more_by setup opening events e (outcome setup opening [] events refl)
