-- The task of the line is the one that is found for it.
use Rattle.std.proofs.Common.{◌∙◌, List, ap}
use Rattle.device_record.specs.Record.{TaskRecord}
use Rattle.device_tables.specs.Tasks.{TaskList}
use Rattle.device_changes.proofs.Asked.{asked_each}
use Rattle.device_changes.proofs.tasks.snoop.Goals as goal

pub returns : goal.returns
returns c =
    c.ask.ensures ∙ ap {B = TaskList} (λ (ts : List TaskRecord). record c.args.tasks.now { tasks = ts }) (asked_each c.args.line.0 c.args.host 0 c.args.tasks.now.tasks c.requires)
