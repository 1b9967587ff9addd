-- The contract is the law itself.
use Rattle.step_laws.proofs.Emitted.{emitted_events_are_allowed as law}
use Rattle.step_laws.proofs.emitted_events_are_allowed.Goals as goal

pub returns : goal.returns
returns c = law
