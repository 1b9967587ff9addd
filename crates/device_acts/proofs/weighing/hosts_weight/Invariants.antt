-- The weight so far is that of the hosts so far.
use Rattle.std.proofs.Common.{◌*◌, ◌≡◌, ◌≤◌}
use Rattle.std.specs.Prelude.{sum_by}
use Rattle.cxl_message.specs.Lists.{below}
use Rattle.device_record.specs.Weights.{weight_of_host}
use Rattle.device_acts.proofs.weighing.hosts_weight.Given as goal

abbrev pub invariant-loop-host : goal.invariant-loop-host
invariant-loop-host l = (l.weight ≡ sum_by (weight_of_host l.tables.setup.hosts l.tables.kept) (below l.host)) × (l.weight ≤ 450000 * l.host)
