-- By recursion over the run, and by what may be taken.
use Rattle.run_laws.proofs.InOrder.{oldest_may_be_taken, rest_is_in_flight}
use Rattle.run_laws.proofs.channels_may_be_taken_in_order.Goals as goal

pub returns-clause-rest : goal.returns-clause-rest
returns-clause-rest c = rest_is_in_flight

pub returns-clause-oldest : goal.returns-clause-oldest
returns-clause-oldest c = oldest_may_be_taken
