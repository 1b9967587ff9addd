-- By the exact list of entries.
use Rattle.entry_laws.proofs.Laws.{victims_stand}
use Rattle.entry_laws.proofs.victims_stand.Goals as goal

pub returns : goal.returns
returns c = victims_stand
