-- From one trace, and that every run is coherent.
use Rattle.trace_check.proofs.Told.{runs_are_coherent}
use Rattle.trace_check.proofs.laws.runs_are_coherent.Goals as goal

pub returns : goal.returns
returns c = runs_are_coherent c.one_trace.ensures
