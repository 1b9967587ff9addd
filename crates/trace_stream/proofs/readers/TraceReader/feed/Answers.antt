-- What was fed is read so far.
use Rattle.std.proofs.Common.{sym, subst, ◌++◌, take}
use Rattle.trace_stream.specs.Readings.{Reading}
use Rattle.trace_stream.specs.Runs.{HasRead}
use Rattle.trace_stream.proofs.Standing.{fed_more}
use Rattle.trace_stream.proofs.readers.TraceReader.feed.Goals as goal

pub returns-clause-goes_on : goal.returns-clause-goes_on
returns-clause-goes_on c bytes items has =
    let more = take c.take.result c.args.piece.now in
    subst (λ (reading : Reading). HasRead (bytes ++ more) items reading) (sym c.take.ensures.after) (fed_more bytes more items c.args.self.now has)
