-- By recursion over the run, tag by tag.
use Rattle.request_laws.proofs.AllConflicts.{conflicts_are_placed, others_are_nowhere}
use Rattle.request_laws.proofs.conflicts_are_placed.Goals as goal

pub returns-clause-placed : goal.returns-clause-placed
returns-clause-placed c = conflicts_are_placed

pub returns-clause-nowhere : goal.returns-clause-nowhere
returns-clause-nowhere c = others_are_nowhere
