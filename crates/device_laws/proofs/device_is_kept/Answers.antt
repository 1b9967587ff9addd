-- What stands goes on.
use Rattle.device_laws.proofs.GoesOn.{stands_on}
use Rattle.device_laws.proofs.device_is_kept.Goals as goal

pub returns-clause-stands_on : goal.returns-clause-stands_on
returns-clause-stands_on c = stands_on
