-- By recursion over the run, line by line.
use Rattle.value_laws.proofs.Laws.{values_kept}
use Rattle.value_laws.proofs.values_are_kept.Goals as goal

pub returns : goal.returns
returns c = values_kept
