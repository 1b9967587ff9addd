use Rattle.std.proofs.Common.{◌≡◌, ℕ, List, ◌++◌, Some, length}
use Rattle.event_scan.specs.Scanning.{all_parts, scan}
use Rattle.event_scan.proofs.scans.EventScan.goes_on.Given as goal

abbrev pub invariant-loop-rest : goal.invariant-loop-rest
invariant-loop-rest l = (front : List ℕ) × (l.bytes ≡ front ++ l.rest) × (scan (all_parts l.initial.self) front ≡ Some (all_parts l.self))

abbrev pub decreases-loop-rest : goal.decreases-loop-rest
decreases-loop-rest l = length l.rest
