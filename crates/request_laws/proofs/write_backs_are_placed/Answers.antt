-- By the places of the write-back tag.
use Rattle.request_laws.proofs.Owners.{other_write_backs, write_backs_are_placed}
use Rattle.request_laws.proofs.write_backs_are_placed.Goals as goal

pub returns-clause-placed : goal.returns-clause-placed
returns-clause-placed c = write_backs_are_placed

pub returns-clause-nowhere : goal.returns-clause-nowhere
returns-clause-nowhere c = other_write_backs
