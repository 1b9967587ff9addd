-- The hosts so far are summed.
use Rattle.std.proofs.Common.{◌≡◌, ◌≤◌, ◌*◌}
use Rattle.std.specs.Prelude.{sum_by}
use Rattle.cxl_message.specs.Lists.{below}
use Rattle.link_queues.specs.Links.{waiting_weight_of}
use Rattle.link_queues.proofs.links.LinkQueues.weight_of_all.Given as goal

abbrev pub invariant-loop-host : goal.invariant-loop-host
invariant-loop-host l = (l.sum ≡ sum_by (waiting_weight_of l.self) (below l.host)) × (l.sum ≤ 2637312 * l.host)
