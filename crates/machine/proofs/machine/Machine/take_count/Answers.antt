-- The takes are counted host by host.
use Rattle.std.proofs.Common.{arith}
use Rattle.machine.proofs.Counted.{all_takes, takes_more}
use Rattle.machine.proofs.machine.Machine.take_count.Goals as goal

pub loop-host-preserved : goal.loop-host-preserved
loop-host-preserved c = (omega arith, takes_more c.args.self.now c.loop-host.host c.loop-host.count c.takes_of-count.result c.loop-host.invariant.1 c.takes_of-count.ensures.count)

pub returns-clause-count : goal.returns-clause-count
returns-clause-count c = all_takes c.args.self.now c.loop-host.host c.loop-host.count (omega arith) c.loop-host.invariant.1
