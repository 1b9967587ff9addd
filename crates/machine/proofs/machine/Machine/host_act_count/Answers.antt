-- The acts are counted host by host, and they are few.
use Rattle.std.proofs.Common.{arith}
use Rattle.machine.proofs.Counted.{acts_fit, acts_more, all_acts}
use Rattle.machine.proofs.machine.Machine.host_act_count.Goals as goal

pub overflow_add-count : goal.overflow_add-count
overflow_add-count c =
    let fits = acts_fit c.args.self.now c.loop-host.host c.loop-host.count c.acts_of-count.result c.hosts-host-end.ensures.some (omega arith) c.loop-host.invariant c.acts_of-count.ensures.count in
    omega arith

pub loop-host-preserved : goal.loop-host-preserved
loop-host-preserved c = acts_more c.args.self.now c.loop-host.host c.loop-host.count c.acts_of-count.result c.loop-host.invariant c.acts_of-count.ensures.count

pub returns : goal.returns
returns c = record { count = all_acts c.args.self.now c.loop-host.host c.loop-host.count (omega arith) c.loop-host.invariant }
