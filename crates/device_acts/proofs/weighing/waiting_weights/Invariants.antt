-- The weight so far is that of the requests so far.
use Rattle.std.proofs.Common.{take, ◌*◌, ◌≡◌, ◌≤◌}
use Rattle.std.specs.Prelude.{sum_by}
use Rattle.device_record.specs.Weights.{waiting_weight}
use Rattle.device_acts.proofs.weighing.waiting_weights.Given as goal

abbrev pub invariant-loop-request : goal.invariant-loop-request
invariant-loop-request l = (l.weight ≡ sum_by (waiting_weight l.hosts) (take l.request-index l.waiting)) × (l.weight ≤ 1728 * l.request-index)
