-- What is judged of one more event, by the machine.
use Rattle.std.proofs.Common.{◌≡◌, ℕ, ◌+◌, ◌<◌, ◌≤◌, ◌^◌, List, [], ◌∷◌, ◌++◌, length, reverse, Option, Some, None, true, refl, sym, ap, subst, ◌∙◌, append-nil, arith}
use Rattle.std.specs.Prelude.{Err, Ok, option_to_list}
use Rattle.std.specs.Option.{option_len}
use Rattle.std.proofs.lemmas.List.{length-append, length-reverse, reverse-append}
use Rattle.cxl_message.specs.Opening.{opening_fits}
use Rattle.cxl_message.specs.Setup.{Configuration}
use Rattle.cxl_message.specs.declared.events.Commit.{Commit}
use Rattle.cxl_message.specs.declared.events.Event.{Event}
use Rattle.cxl_message.specs.declared.identifiers.Bytes64.{Bytes64}
use Rattle.cxl_message.specs.declared.identifiers.Line.{Line}
use Rattle.cxl_message.specs.declared.states.RuleNo.{RuleNo}
use Rattle.coherence_model.specs.Runs.{first_broken}
use Rattle.coherence_model.specs.Traces.{history}
use Rattle.coherence_model.specs.Verdicts.{Verdict, verdict_on}
use Rattle.machine.specs.Stands.{StandsFor, WhereStands, verdict}
use Rattle.trace_stream.specs.declared.items.Item.{Item}
use Rattle.trace_stream.specs.declared.stages.Stage.{Stage}
use Rattle.verdict_laws.specs.Laws.{with_one_more}
use Rattle.verdict_laws.proofs.Growth.{one_more_is_told}
use Rattle.verdict_laws.proofs.Verdicts.{run_is_told}
use Rattle.trace_check.specs.declared.judging.Judging.{Judging}
use Rattle.trace_check.specs.declared.runs.Run.{Run}
use Rattle.trace_check.specs.Items.{events_in, openings_in, setups_in}
use Rattle.trace_check.specs.Judged.{GoesOnBy, IsBroken, IsJudged, IsOpened, IsRunning}
use Rattle.trace_check.proofs.Openings.{opened_well}
use Rattle.trace_check.proofs.Parts.{ends, events_more, openings_more, setups_more}

-- ---- the first event

-- the lines that were opened are of the setup
pub opens_fitting : (items : List Item) (e : Event) (setup : Configuration) (opening : List (Line × Bytes64)) → GoesOnBy items (Item.Event e) (Judging.Opened setup opening) → opening_fits setup.lines opening ≡ true
opens_fitting items e setup opening on =
    let good = opened_well items setup (ends Stage.Start items (Item.Event e) on.follow).front on.judged.header in subst (λ (l : List (Line × Bytes64)). opening_fits setup.lines l ≡ true) on.judged.opened good.below

-- the machine stands for no event
pub none_running : (items : List Item) (setup : Configuration) (opening : List (Line × Bytes64)) (run : Run) → IsOpened items setup opening → StandsFor run.machine setup opening [] → run.events ≡ 0 → run.commits ≡ 0
    → IsRunning items run
none_running items setup opening run opened stands events commits =
    record {
      setup = setup;
      header = opened.header;
      stands =
          subst (λ (l : List (Line × Bytes64)). StandsFor run.machine setup l (reverse (events_in items))) (sym opened.opened)
          (subst (λ (l : List Event). StandsFor run.machine setup opening (reverse l)) (sym opened.none) stands);
      told = ap (λ (l : List Event). verdict_on setup (openings_in items) l) opened.none ∙ ap (λ (n : ℕ). Verdict.Run n 0) (sym events) ∙ ap (Verdict.Run run.events) (sym commits);
    }

-- ---- numbers

at_most_one : (o : Option Commit) → length (option_to_list o) ≤ 1
at_most_one None = omega arith
at_most_one (Some c) = omega arith

-- there are no more commits than events
few_commits : (t : List Event) → length (history t) ≤ length t
few_commits [] = omega arith
few_commits (e ∷ t) = omega (arith, at_most_one e.commit, length-append (option_to_list e.commit) (history t), few_commits t)

pub record AreFew (run : Run) : Type 0 where
  pub events : run.events + 1 < 2 ^ 64
  pub commits : run.commits + 1 < 2 ^ 64

pub numbers_are_few : (items : List Item) (run : Run) → IsRunning items run → length (events_in items) < 2 ^ 63 → AreFew run
numbers_are_few items run running few =
    let told = (run_is_told running.setup (openings_in items) (events_in items) run.events run.commits).0 running.told in
    let commits = few_commits (reverse (events_in items)) in
    record {
      events = omega (arith, told.all_events, few);
      commits = omega (arith, told.all_commits, commits, length-reverse (events_in items), few);
    }

-- ---- one more event

nothing_broken : (o : Option RuleNo) → Ok tt ≡ verdict o → o ≡ None
nothing_broken None e = refl
nothing_broken (Some rule) e = absurd cc

something_broken : (o : Option RuleNo) (rule : RuleNo) → Err rule ≡ verdict o → o ≡ Some rule
something_broken None rule e = absurd cc
something_broken (Some other) rule e = cc

-- the verdict with one more
told_more : (setup : Configuration) (items : List Item) (e : Event) (before : Verdict) (o : Option RuleNo) → verdict_on setup (openings_in items) (events_in items) ≡ before
    → first_broken setup (openings_in items) (reverse (events_in items)) e ≡ o → verdict_on setup (openings_in (items ++ Item.Event e ∷ [])) (events_in (items ++ Item.Event e ∷ [])) ≡ with_one_more before o e
told_more setup items e before o told broken =
    let item = Item.Event e in
    ap (λ (l : List Event). verdict_on setup (openings_in (items ++ item ∷ [])) l) (events_more items item)
    ∙ ap (λ (l : List (Line × Bytes64)). verdict_on setup l (events_in items ++ e ∷ [])) (openings_more items item ∙ append-nil (openings_in items))
    ∙ one_more_is_told setup (openings_in items) (events_in items) e ∙ ap (λ (v : Verdict). with_one_more v (first_broken setup (openings_in items) (reverse (events_in items)) e) e) told
    ∙ ap (λ (p : Option RuleNo). with_one_more before p e) broken

header_more : (setup : Configuration) (items : List Item) (e : Event) → setups_in items ≡ setup ∷ [] → setups_in (items ++ Item.Event e ∷ []) ≡ setup ∷ []
header_more setup items e header = setups_more items (Item.Event e) ∙ append-nil (setups_in items) ∙ header

-- an event that is allowed goes on the run
pub run_goes_on : (items : List Item) (run new : Run) (e : Event) → IsRunning items run → WhereStands run.machine (λ setup opening t. Ok tt ≡ verdict (first_broken setup opening t e))
    → WhereStands run.machine (λ setup opening t. StandsFor new.machine setup opening (e ∷ t)) → new.events ≡ run.events + 1 → new.commits ≡ run.commits + option_len e.commit
    → IsJudged (items ++ Item.Event e ∷ []) (Judging.Running new)
run_goes_on items run new e running answer goes events commits =
    let setup = running.setup in
    let item = Item.Event e in
    let t : List Event = reverse (events_in items) in
    let broken = nothing_broken (first_broken setup (openings_in items) t e) (answer setup (openings_in items) t running.stands) in
    let turned : e ∷ t ≡ reverse (events_in (items ++ item ∷ [])) = sym (ap (λ (l : List Event). reverse l) (events_more items item) ∙ reverse-append (events_in items) (e ∷ [])) in (
      record {
        setup = setup;
        header = header_more setup items e running.header;
        stands =
            subst (λ (l : List (Line × Bytes64)). StandsFor new.machine setup l (reverse (events_in (items ++ item ∷ [])))) (sym (openings_more items item ∙ append-nil (openings_in items)))
            (subst (λ (l : List Event). StandsFor new.machine setup (openings_in items) l) turned (goes setup (openings_in items) t running.stands));
        told =
            told_more setup items e (Verdict.Run run.events run.commits) None running.told broken ∙ ap (λ (n : ℕ). Verdict.Run n (run.commits + option_len e.commit)) (sym events)
            ∙ ap (Verdict.Run new.events) (sym commits);
      },
      omega (arith, events),
    )

-- one that isn't ends it
pub run_breaks : (items : List Item) (run : Run) (e : Event) (rule : RuleNo) → IsRunning items run → WhereStands run.machine (λ setup opening t. Err rule ≡ verdict (first_broken setup opening t e))
    → IsJudged (items ++ Item.Event e ∷ []) (Judging.Broken run.events rule)
run_breaks items run e rule running answer =
    let setup = running.setup in
    let t : List Event = reverse (events_in items) in
    let broken = something_broken (first_broken setup (openings_in items) t e) rule (answer setup (openings_in items) t running.stands) in
    record {
      setup = setup;
      header = header_more setup items e running.header;
      told = told_more setup items e (Verdict.Run run.events run.commits) (Some rule) running.told broken;
    }

-- and whatever comes behind it changes nothing
pub broken_stays : (items : List Item) (event : ℕ) (rule : RuleNo) (e : Event) → IsBroken items event rule → IsJudged (items ++ Item.Event e ∷ []) (Judging.Broken event rule)
broken_stays items event rule e broken =
    record {
      setup = broken.setup;
      header = header_more broken.setup items e broken.header;
      told = told_more broken.setup items e (Verdict.Broken event rule) (first_broken broken.setup (openings_in items) (reverse (events_in items)) e) broken.told refl;
    }
