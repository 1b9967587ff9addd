-- What fits is kept whole, and the next event has room or none.
use Rattle.serial_laws.proofs.SerialWay.{serial_begins, serial_ends, serial_goes_on, serial_stops}
use Rattle.serial_laws.proofs.serial_driving_stops.Goals as goal

pub returns-clause-begins : goal.returns-clause-begins
returns-clause-begins c = serial_begins

pub returns-clause-goes_on : goal.returns-clause-goes_on
returns-clause-goes_on c = serial_goes_on

pub returns-clause-ends : goal.returns-clause-ends
returns-clause-ends c = serial_ends

pub returns-clause-stops : goal.returns-clause-stops
returns-clause-stops c = serial_stops
