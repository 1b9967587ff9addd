use Rattle.std.proofs.Common.{arith, refl}
use Rattle.cxl_view.proofs.Streams.{stream_put, streams_put}
use Rattle.cxl_view.proofs.headers.put_streams.Goals as goal

pub loop-stream-init : goal.loop-stream-init
loop-stream-init c = (refl, omega (arith, c.requires.room))

pub loop-stream-preserved : goal.loop-stream-preserved
loop-stream-preserved c = (
  stream_put c.args.hosts.now c.loop-stream.stream _ _ _ c.loop-stream-test.true c.put_stream.ensures.items c.loop-stream.invariant.0,
  omega (arith, c.put_stream.ensures.len, c.put_stream.ensures.capacity, c.loop-stream.invariant.1),
)

pub returns : goal.returns
returns c = streams_put c.args.hosts.now c.loop-stream.stream _ _ c.loop-stream-test.false c.loop-stream.invariant.0
