-- The laws.
use Rattle.link_queues.proofs.Going.{flight_goes_on, sends_have_room, takes_are_there}
use Rattle.link_queues.proofs.laws.flight_goes_on.Goals as goal

pub returns-clause-takes : goal.returns-clause-takes
returns-clause-takes c = takes_are_there

pub returns-clause-sends : goal.returns-clause-sends
returns-clause-sends c = sends_have_room

pub returns-clause-goes_on : goal.returns-clause-goes_on
returns-clause-goes_on c = flight_goes_on
