-- Every run is coherent: each of its fronts is a run, and the laws of every run hold of it.
use Rattle.std.proofs.Common.{List, subst, ◌++◌, ◌≡◌}
use Rattle.cxl_message.specs.declared.events.Event.{Event}
use Rattle.coherence_model.specs.Runs.{IsRun}
use Rattle.listing_laws.proofs.Laws.{copies_alone}
use Rattle.progress_laws.proofs.SnoopTakes.{snoops_known}
use Rattle.progress_laws.proofs.StuckOpen.{pending_goes_on}
use Rattle.run_laws.proofs.Runs.{front_is_run}
use Rattle.value_laws.proofs.Laws.{runs_legal}
use Rattle.coherent_runs.specs.Coherent.{RunsAreCoherent}

-- every run is coherent
pub runs_coherent : RunsAreCoherent
runs_coherent setup opening limits t run =
    let front : (later past : List Event) → t ≡ later ++ past → IsRun setup opening past =
    λ later past is. front_is_run setup opening later past (subst (λ (whole : List Event). IsRun setup opening whole) is run) in
    record {
      run = run;
      legal = runs_legal setup opening limits t run;
      alone = λ later past is. copies_alone setup opening limits past (front later past is);
      goes_on = λ later past is pending. pending_goes_on setup opening limits past (front later past is) (snoops_known setup opening limits past (front later past is)) pending;
    }
