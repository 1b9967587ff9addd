use Rattle.std.proofs.Common.{List, length, ℕ, ◌+◌, ◌≡◌, ◌≤◌}
use Rattle.std.specs.Io.KnownBytes.{Consumes}
use Rattle.outside_io.specs.Counts.{RisesAtMost}
use Rattle.trace_stream.specs.Readings.{fed_count}
use Rattle.trace_check.specs.Judged.{HasChecked}
use Rattle.cxlmem.specs.Checks.{trace_limit}
use Rattle.cxlmem.proofs.checking.read_verdict.Given as goal

abbrev pub invariant-loop-count : goal.invariant-loop-count
invariant-loop-count g l = record {
  bytes : List ℕ;
  came : Consumes (g.S.Source.left l.initial.source) (g.S.Source.left l.source) bytes;
  checked : HasChecked bytes l.checker;
  number : length bytes + l.room ≡ trace_limit;
  fed : fed_count l.checker.reading + l.room ≤ trace_limit;
  faults : g.S.Source.faults l.source ≡ g.S.Source.faults l.initial.source;
  counts : RisesAtMost (length bytes) (g.S.Source.highest_count l.initial.source) (g.S.Source.highest_count l.source);
}

abbrev pub decreases-loop-count : goal.decreases-loop-count
decreases-loop-count g l = l.room
