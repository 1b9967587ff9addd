use Rattle.std.proofs.Common.{arith}
use Rattle.outside_io.proofs.Bytes.{LosesWithin_more}
use Rattle.outside_io.proofs.whole.read_all.Goals as goal

pub returns-in_err-map_err-clause-memory : goal.returns-in_err-map_err-clause-memory
returns-in_err-map_err-clause-memory g c =
    let bytes = c.loop-count.bytes in
    let read = c.in-Ok.ensures in
    λ _. LosesWithin_more c.args.limit c.in-Ok.count _ _ _ bytes.items _ c.loop-count.invariant.came read.bytes.0 read.within.0 (omega (arith, bytes.ok.0))
