-- The laws of values, over every run of a setup within its limits.
use Rattle.std.proofs.Common.{ℕ, ◌<◌, List}
use Rattle.cxl_message.specs.declared.events.Event.{Event}
use Rattle.cxl_message.specs.declared.identifiers.Bytes64.{Bytes64}
use Rattle.cxl_message.specs.declared.identifiers.Line.{Line}
use Rattle.cxl_message.specs.Setup.{Configuration, IsWithinLimits}
use Rattle.coherence_model.specs.FlatMemory.{flat_line}
use Rattle.coherence_model.specs.Runs.{IsRun}
use Rattle.coherence_model.specs.Traces.{history}
use Rattle.coherence_model.specs.ValueFacts.{value_is_kept}
use Rattle.request_laws.proofs.Below.{all_below}
use Rattle.value_laws.proofs.Apart.{owners_apart}
use Rattle.value_laws.proofs.EarlyCopies.{early_unwritable}
use Rattle.value_laws.proofs.Kept.{ValueKept, value_kept}
use Rattle.value_laws.proofs.Legal.{run_legal}
use Rattle.value_laws.proofs.Whole.{line_passes}
use Rattle.value_laws.specs.Laws.{RunsAreLegal, ValuesAreKept}

-- after every run a line's value is the flat memory's
line_kept_always : (setup : Configuration) (opening : List (Line × Bytes64)) → IsWithinLimits setup → (a : ℕ) → a < setup.lines → (t : List Event) → IsRun setup opening t → ValueKept setup opening a (flat_line opening a (history t)) t
line_kept_always setup opening limits a exists = value_kept setup opening limits a (owners_apart setup opening limits a exists) (λ t run h host. early_unwritable setup opening limits h host a t run)

-- after every run the value of every line is kept
pub values_kept : ValuesAreKept
values_kept setup opening limits t run =
    all_below (value_is_kept setup opening t) setup.lines (λ a exists. line_passes setup opening a t (line_kept_always setup opening limits a exists t run) (owners_apart setup opening limits a exists t run))

-- after every run the history is legal
pub runs_legal : RunsAreLegal
runs_legal setup opening limits t run = run_legal setup opening limits (line_kept_always setup opening limits) t run
