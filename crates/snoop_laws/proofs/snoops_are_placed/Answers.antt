-- By recursion over the run: each event moves lines from place to place.
use Rattle.snoop_laws.proofs.WholeLaw.{snoops_placed}
use Rattle.snoop_laws.proofs.snoops_are_placed.Goals as goal

pub returns : goal.returns
returns c = snoops_placed
