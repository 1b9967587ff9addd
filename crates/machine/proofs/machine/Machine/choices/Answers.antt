-- The takes, the acts of the hosts and those of the device are all the next steps, and they are few.
use Rattle.std.proofs.Common.{arith}
use Rattle.machine.proofs.Counted.{steps_add_up, steps_fit}
use Rattle.machine.proofs.machine.Machine.choices.Goals as goal

pub overflow_add-result : goal.overflow_add-result
overflow_add-result c =
    let fits = steps_fit c.args.self.now c.counted_device.result.now c.take_count-takes.result c.host_act_count-acts.result c.act_count-device_acts.result c.take_count-takes.ensures.some c.take_count-takes.ensures.count c.host_act_count-acts.ensures.count c.counted_device.ensures.stands c.act_count-device_acts.ensures in
    omega arith

pub overflow_add-result-2 : goal.overflow_add-result-2
overflow_add-result-2 c =
    let fits = steps_fit c.args.self.now c.counted_device.result.now c.take_count-takes.result c.host_act_count-acts.result c.act_count-device_acts.result c.take_count-takes.ensures.some c.take_count-takes.ensures.count c.host_act_count-acts.ensures.count c.counted_device.ensures.stands c.act_count-device_acts.ensures in
    omega arith

pub returns : goal.returns
returns c = record { count = steps_add_up c.args.self.now c.counted_device.result.now c.take_count-takes.result c.host_act_count-acts.result c.act_count-device_acts.result c.take_count-takes.ensures.count c.host_act_count-acts.ensures.count c.counted_device.ensures.stands c.act_count-device_acts.ensures }
