-- The act is of this host, or stands after those of it.
use Rattle.std.proofs.Common.{arith}
use Rattle.std.specs.Prelude.{option_map}
use Rattle.machine.proofs.Picked.{act_of_host, acts_pass, no_more_acts}
use Rattle.machine.specs.Steps.{parts_of}
use Rattle.machine.proofs.machine.Machine.host_act_at.Goals as goal

pub returns-then-left-count : goal.returns-then-left-count
returns-then-left-count c = record {
  step = act_of_host c.args.self.now c.loop-host.host c.args.k c.loop-host.left c.acts_of-count.result (option_map parts_of c.act_of.result) (omega arith) c.if-left-count.true c.acts_of-count.ensures.count c.loop-host.invariant
      c.act_of.ensures.step;
}

pub loop-host-preserved : goal.loop-host-preserved
loop-host-preserved c = acts_pass c.args.self.now c.loop-host.host c.args.k c.loop-host.left c.acts_of-count.result c.if-left-count.false c.acts_of-count.ensures.count c.loop-host.invariant

pub returns : goal.returns
returns c = record { step = no_more_acts c.args.self.now c.loop-host.host c.args.k c.loop-host.left (omega arith) c.loop-host.invariant }
