-- One more task is weighed.
use Rattle.std.proofs.Common.{◌∙◌, ◌+◌, ◌<◌, length, ap, arith, sym}
use Rattle.std.proofs.lemmas.List.Sums.{sum_by_more}
use Rattle.device_record.specs.Weights.{weight_of_task}
use Rattle.device_acts.proofs.weighing.tasks_weight.Goals as goal

pub loop-task-preserved : goal.loop-task-preserved
loop-task-preserved c =
    let weigh = weight_of_task c.args.filter.now.hosts c.args.filter.now.rows in
    let within : c.loop-task.task-index < length c.args.tasks.now = omega arith in
    let here = c.task_weight-weight.ensures.weight ∙ ap weigh c.task-item.is in
    ((λ i. c.loop-task.invariant.0 i + here i) ∙ sym (sum_by_more weigh c.args.tasks.now c.loop-task.task-index _ within), omega (arith, c.task_weight-weight.ensures.few, c.loop-task.invariant.1))
