-- The take is of this host, or stands after those of it.
use Rattle.std.proofs.Common.{arith}
use Rattle.std.specs.Prelude.{option_map}
use Rattle.machine.proofs.Picked.{no_more_takes, take_of_host, takes_pass}
use Rattle.machine.specs.Steps.{parts_of}
use Rattle.machine.proofs.machine.Machine.take_at.Goals as goal

pub returns-then-left-count : goal.returns-then-left-count
returns-then-left-count c = record {
  step = take_of_host c.args.self.now c.loop-host.host c.args.k c.loop-host.left c.takes_of-count.result (option_map parts_of c.take_of.result) (omega arith) c.if-left-count.true c.takes_of-count.ensures.count c.loop-host.invariant
      c.take_of.ensures.step;
}

pub loop-host-preserved : goal.loop-host-preserved
loop-host-preserved c = takes_pass c.args.self.now c.loop-host.host c.args.k c.loop-host.left c.takes_of-count.result c.if-left-count.false c.takes_of-count.ensures.count c.loop-host.invariant

pub returns : goal.returns
returns c = record { step = no_more_takes c.args.self.now c.loop-host.host c.args.k c.loop-host.left (omega arith) c.loop-host.invariant }
