-- All that is in flight, then each host, then the device; and it fits.
use Rattle.std.proofs.Common.{arith}
use Rattle.coherence_laws.proofs.Weighed.{all_weighed, device_fits, host_fits, one_host_more}
use Rattle.coherence_laws.proofs.weighing.weight.Goals as goal

pub overflow_add-total : goal.overflow_add-total
overflow_add-total c =
    let fits = host_fits c.args.machine.now c.loop-host.host c.loop-host.total c.weight_of_host-total.result c.hosts-host-end.ensures.some (omega arith) c.loop-host.invariant c.weight_of_host-total.ensures in
    omega arith

pub loop-host-preserved : goal.loop-host-preserved
loop-host-preserved c = one_host_more c.args.machine.now c.loop-host.host c.loop-host.total c.weight_of_host-total.result c.loop-host.invariant c.weight_of_host-total.ensures

pub overflow_add-result : goal.overflow_add-result
overflow_add-result c =
    let fits = device_fits c.args.machine.now c.device.result.now c.loop-host.host c.loop-host.total c.weight.result c.hosts-host-end.ensures.some (omega arith) c.device.ensures.there c.loop-host.invariant c.weight.ensures.weight in
    omega arith

pub returns : goal.returns
returns c = all_weighed c.args.machine.now c.device.result.now c.loop-host.host c.loop-host.total c.weight.result (omega arith) c.device.ensures.there c.loop-host.invariant c.weight.ensures.weight
