-- By recursion over the run, tag by tag.
use Rattle.request_laws.proofs.OpenPlaced.{open_lines_are_placed}
use Rattle.request_laws.proofs.open_lines_are_placed.Goals as goal

pub returns : goal.returns
returns c = record { placed = open_lines_are_placed }
