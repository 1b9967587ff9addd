-- By recursion over the run: each commit finds the flat memory's line.
use Rattle.value_laws.proofs.Laws.{runs_legal}
use Rattle.value_laws.proofs.runs_are_legal.Goals as goal

pub returns : goal.returns
returns c = runs_legal
