-- One more host is weighed.
use Rattle.std.proofs.Common.{arith}
use Rattle.device_record.specs.Weights.{weight_of_host}
use Rattle.device_acts.proofs.Hosts.{sum_more}
use Rattle.device_acts.proofs.weighing.hosts_weight.Goals as goal

pub loop-host-preserved : goal.loop-host-preserved
loop-host-preserved c = (
  sum_more (weight_of_host c.args.tables.now.setup.hosts c.args.tables.now.kept) c.loop-host.host c.loop-host.weight c.host_weight-weight.result c.loop-host.invariant.0 c.host_weight-weight.ensures.weight,
  omega (arith, c.host_weight-weight.ensures.few, c.loop-host.invariant.1),
)
