-- The takes come first, then the acts of the hosts, then those of the device.
use Rattle.std.specs.Prelude.{option_map}
use Rattle.machine.proofs.Picked.{at_device_act, at_host_act, at_take}
use Rattle.machine.specs.Steps.{parts_of}
use Rattle.machine.proofs.machine.Machine.step_at.Goals as goal

pub returns-then-k-takes-clause-step : goal.returns-then-k-takes-clause-step
returns-then-k-takes-clause-step c = at_take c.args.self.now c.args.k c.take_count-takes.result (option_map parts_of c.take_at.result) c.if-k-takes.true c.take_count-takes.ensures.count c.take_at.ensures.step

pub returns-then-past-acts-clause-step : goal.returns-then-past-acts-clause-step
returns-then-past-acts-clause-step c =
    at_host_act c.args.self.now c.args.k c.take_count-takes.result c.host_act_count-acts.result (option_map parts_of c.host_act_at.result) c.if-k-takes.false c.if-past-acts.true c.take_count-takes.ensures.count c.host_act_count-acts.ensures.count c.host_act_at.ensures.step

pub returns-clause-step : goal.returns-clause-step
returns-clause-step c =
    at_device_act c.args.self.now c.args.k c.take_count-takes.result c.host_act_count-acts.result (option_map parts_of c.device_act_at.result) c.if-k-takes.false c.if-past-acts.false c.take_count-takes.ensures.count c.host_act_count-acts.ensures.count c.device_act_at.ensures.step
