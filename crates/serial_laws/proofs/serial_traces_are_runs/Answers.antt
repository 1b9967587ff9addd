-- A front of a reached trace is reached.
use Rattle.serial_laws.proofs.Serial.{serial_commits, serial_complete_or_full, serial_follows, serial_is_reached, serial_is_run}
use Rattle.serial_laws.proofs.serial_traces_are_runs.Goals as goal

pub returns-clause-reached : goal.returns-clause-reached
returns-clause-reached c = serial_is_reached

pub returns-clause-run : goal.returns-clause-run
returns-clause-run c = serial_is_run

pub returns-clause-follows : goal.returns-clause-follows
returns-clause-follows c = serial_follows

pub returns-clause-commits : goal.returns-clause-commits
returns-clause-commits c = serial_commits

pub returns-clause-complete : goal.returns-clause-complete
returns-clause-complete c = serial_complete_or_full
