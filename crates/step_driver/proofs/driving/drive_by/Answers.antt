-- A script can be driven.
use Rattle.step_driver.proofs.Drivable.{drivable_of}
use Rattle.step_driver.proofs.driving.drive_by.Goals as goal

pub put_trace-requires-clause-drivable : goal.put_trace-requires-clause-drivable
put_trace-requires-clause-drivable g c = drivable_of c.args.script.now c.setup.ensures.script
