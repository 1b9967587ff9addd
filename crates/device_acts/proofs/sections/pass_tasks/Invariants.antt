-- The tasks so far are passed.
use Rattle.std.proofs.Common.{◌≡◌, take}
use Rattle.std.specs.Prelude.{flat_map}
use Rattle.device_record.specs.Acts.{acts_of_task}
use Rattle.device_acts.specs.Searching.{searched}
use Rattle.device_acts.proofs.sections.pass_tasks.Given as goal

abbrev pub invariant-loop-task : goal.invariant-loop-task
invariant-loop-task l = l.search ≡ searched (flat_map (acts_of_task l.tables.setup l.tables.kept) (take l.task-index l.tasks)) l.initial.search
