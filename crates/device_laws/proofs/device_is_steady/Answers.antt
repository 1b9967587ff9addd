-- What is kept is steady.
use Rattle.device_laws.proofs.Steady.{steady_is}
use Rattle.device_laws.proofs.device_is_steady.Goals as goal

pub returns : goal.returns
returns c = steady_is
