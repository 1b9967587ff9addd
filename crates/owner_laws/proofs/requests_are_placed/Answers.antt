-- Host by host: its lines, its messages, and the tasks.
use Rattle.owner_laws.proofs.Laws.{requests_placed}
use Rattle.owner_laws.proofs.requests_are_placed.Goals as goal

pub returns : goal.returns
returns c = requests_placed
