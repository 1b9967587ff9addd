use Rattle.std.proofs.Common.{◌≡◌, ◌≤◌, ◌-◌, length, take, drop}
use Rattle.cxl_codec.specs.Reading.{run_at}
use Rattle.cxl_codec.proofs.Runs.{with_front}
use Rattle.cxl_codec.proofs.reading.read_run.Given as goal

abbrev pub invariant-loop-i : goal.invariant-loop-i
invariant-loop-i l = (l.i ≤ length l.bytes) × (with_front (take l.i l.bytes) (run_at l.which l.most (l.count - l.i) (drop l.i l.bytes)) ≡ run_at l.which l.most l.count l.bytes)
