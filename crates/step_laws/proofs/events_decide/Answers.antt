-- The contract is the law itself.
use Rattle.step_laws.proofs.Laws.{events_decide as law}
use Rattle.step_laws.proofs.events_decide.Goals as goal

pub returns : goal.returns
returns c = law
