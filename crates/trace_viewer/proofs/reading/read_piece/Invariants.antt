-- What was read of the piece is shown, and the rest is left.
use Rattle.std.proofs.Common.{◌+◌, length}
use Rattle.trace_viewer.proofs.Bytes.{PieceAt}
use Rattle.trace_viewer.proofs.reading.read_piece.Given as goal

abbrev pub invariant-loop-found : goal.invariant-loop-found
invariant-loop-found l =
    PieceAt (record { reading = l.initial.reader; counted = l.initial.tallies }) (record { reading = l.reader; counted = l.tallies }) l.initial.out.items l.out.items l.piece l.rest

abbrev pub decreases-loop-found : goal.decreases-loop-found
decreases-loop-found l = length l.reader.waiting + length l.rest
