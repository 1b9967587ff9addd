-- By the credits of each channel and the lines.
use Rattle.bound_laws.proofs.Few.{next_steps_are_few}
use Rattle.bound_laws.proofs.Rooms.{in_flight_fits}
use Rattle.bound_laws.proofs.next_steps_are_few.Goals as goal

pub returns-clause-flight : goal.returns-clause-flight
returns-clause-flight c = in_flight_fits

pub returns-clause-steps : goal.returns-clause-steps
returns-clause-steps c = next_steps_are_few
