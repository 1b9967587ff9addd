use Rattle.std.proofs.Common.{◌+◌, ◌≤◌, length}
use Rattle.trace_stream.specs.Readings.{fed_count}
use Rattle.stream_bench.proofs.reading.feed.Given as goal

abbrev pub invariant-loop : goal.invariant-loop
invariant-loop l = fed_count l.reader + length l.rest ≤ fed_count l.initial.reader + length l.piece
