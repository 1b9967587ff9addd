-- The weight so far is that of the tasks so far.
use Rattle.std.proofs.Common.{take, ◌*◌, ◌≡◌, ◌≤◌}
use Rattle.std.specs.Prelude.{sum_by}
use Rattle.device_record.specs.Weights.{weight_of_task}
use Rattle.device_acts.proofs.weighing.tasks_weight.Given as goal

abbrev pub invariant-loop-task : goal.invariant-loop-task
invariant-loop-task l = (l.weight ≡ sum_by (weight_of_task l.filter.hosts l.filter.rows) (take l.task-index l.tasks)) × (l.weight ≤ 22000 * l.task-index)
