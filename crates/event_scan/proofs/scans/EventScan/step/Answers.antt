-- One byte that may not have any value.
use Rattle.std.proofs.Common.{◌∷◌}
use Rattle.event_scan.proofs.Scanning.{over_first}
use Rattle.event_scan.proofs.ScanBehind.{goes_over_one}
use Rattle.event_scan.proofs.scans.EventScan.step.Goals as goal

pub returns-then-takes-clause-over : goal.returns-then-takes-clause-over
returns-then-takes-clause-over c = goes_over_one c.args.self.now c.takes.new.self c.args.bytes.now c.requires (c.takes.ensures.taken c.if-takes.true)

pub returns-else-takes-clause-settled : goal.returns-else-takes-clause-settled
returns-else-takes-clause-settled c room = over_first (c.args.self.now.next ∷ c.args.self.now.others) c.args.bytes.now c.requires (c.takes.ensures.settled room c.if-takes.false)
