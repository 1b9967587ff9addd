use Rattle.std.proofs.Common.{◌≡◌, arith, get_or}
use Rattle.cxl_codec.specs.Reading.{within}
use Rattle.cxl_codec.proofs.Runs.{goes_on, ends_short, ends_wrong, is_done, done_at, taken, refused}
use Rattle.cxl_codec.proofs.reading.read_run.Goals as goal

pub returns-then-bytes-i : goal.returns-then-bytes-i
returns-then-bytes-i c =
    ends_short c.args.which (within 0 c.args.most) c.args.count c.loop-i.i c.args.bytes.now _ (omega arith) (omega arith) c.loop-i.invariant.1

pub returns-then-bytes-i-2 : goal.returns-then-bytes-i-2
returns-then-bytes-i-2 c =
    ends_wrong c.args.which (within 0 c.args.most) c.args.count c.loop-i.i c.args.bytes.now _ (omega arith) (omega arith) (refused c.args.most (get_or c.args.bytes.now c.loop-i.i 0) (omega arith)) c.loop-i.invariant.1

pub loop-i-preserved : goal.loop-i-preserved
loop-i-preserved c =
    (omega arith, goes_on c.args.which (within 0 c.args.most) c.args.count c.loop-i.i c.args.bytes.now _ (omega arith) (omega arith) (taken c.args.most (get_or c.args.bytes.now c.loop-i.i 0) (omega arith)) c.loop-i.invariant.1)

pub returns : goal.returns
returns c =
    let i-is : c.loop-i.i ≡ c.args.count = omega arith in
    done_at _ _ _ c.args.bytes.now _ _ i-is c.split_at.ensures.front c.split_at.ensures.back
    (is_done c.args.which (within 0 c.args.most) c.args.count c.loop-i.i c.args.bytes.now _ (omega arith) c.loop-i.invariant.1)
