-- A trace whose verdict is a run is a coherent one.
use Rattle.std.proofs.Common.{List, None, Option, Some, reverse, ℕ}
use Rattle.std.specs.Prelude.{IfSome}
use Rattle.coherent_runs.proofs.Runs.{runs_coherent}
use Rattle.verdict_laws.proofs.Verdicts.{run_is_told}
use Rattle.trace_check.specs.declared.verdicts.Verdict.{Verdict}
use Rattle.cxlmem.specs.Checks.{IsChecked, IsGoodTrace}

-- what implies holds of what there is
pub some_weaker : {X : Type 0} (o : Option X) (P Q : X → Type 0) → ((x : X) → P x → Q x) → IfSome o P → IfSome o Q
some_weaker None P Q h p = tt
some_weaker (Some x) P Q h p = h x p

pub good_trace : (bytes : List ℕ) (events commits : ℕ) → IsChecked bytes (Verdict.Run events commits) → IsGoodTrace bytes events commits
good_trace bytes events commits checked =
    let t = checked.told in
    record {
      checked = checked;
      coherent = record {
        version = t.version;
        setup = t.setup;
        names = t.names;
        opening = t.opening;
        events = t.events;
        trace = t.trace;
        coherent = runs_coherent t.setup t.opening t.trace.fits.limits.limits (reverse t.events) ((run_is_told t.setup t.opening t.events events commits).0 t.told).run;
      };
    }
