-- Each event is kept or is the first that has no room.
use Rattle.serial_laws.proofs.Cut.{serial_has_room, serial_is_cut}
use Rattle.serial_laws.proofs.Serial.{serial_is_whole}
use Rattle.serial_laws.proofs.serial_traces_are_cut.Goals as goal

pub returns-clause-cut : goal.returns-clause-cut
returns-clause-cut c = serial_is_cut

pub returns-clause-room : goal.returns-clause-room
returns-clause-room c = serial_has_room

pub returns-clause-whole : goal.returns-clause-whole
returns-clause-whole c = serial_is_whole
