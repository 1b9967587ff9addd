use Rattle.std.proofs.Common.{◌+◌, ◌≤◌, length}
use Rattle.trace_stream.specs.Readings.{fed_count}
use Rattle.stream_bench.proofs.reading.read.Given as goal

abbrev pub invariant-loop-ended : goal.invariant-loop-ended
invariant-loop-ended l = fed_count l.reader + length l.rest ≤ length l.trace

abbrev pub decreases-loop-ended : goal.decreases-loop-ended
decreases-loop-ended l = length l.rest
