-- One more task is passed.
use Rattle.std.proofs.Common.{◌∙◌, ◌<◌, length, ap, arith}
use Rattle.device_record.specs.Acts.{acts_of_task}
use Rattle.device_record.specs.Record.{TaskRecord}
use Rattle.device_acts.specs.Searching.{searched}
use Rattle.device_acts.proofs.Passing.{searched_more}
use Rattle.device_acts.proofs.sections.pass_tasks.Goals as goal

pub loop-task-preserved : goal.loop-task-preserved
loop-task-preserved c =
    let within : c.loop-task.task-index < length c.args.tasks.now = omega arith in
    searched_more (acts_of_task c.args.tables.now.setup c.args.tables.now.kept) c.args.tasks.now c.loop-task.task-index _ c.args.search.now c.loop-task.search c.pass_task.new.search within c.loop-task.invariant
    (c.pass_task.ensures ∙ ap (λ (t : TaskRecord). searched (acts_of_task c.args.tables.now.setup c.args.tables.now.kept t) c.loop-task.search) c.task-item.is)
