-- What was read of the piece is judged, and the rest is left.
use Rattle.std.proofs.Common.{◌+◌, length}
use Rattle.trace_check.proofs.Bytes.{PieceAt}
use Rattle.trace_check.proofs.reading.read_piece.Given as goal

abbrev pub invariant-loop-found : goal.invariant-loop-found
invariant-loop-found l = PieceAt (record { reading = l.initial.reader; judging = l.initial.judging }) (record { reading = l.reader; judging = l.judging }) l.piece l.rest

abbrev pub decreases-loop-found : goal.decreases-loop-found
decreases-loop-found l = length l.reader.waiting + length l.rest
