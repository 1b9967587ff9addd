-- The first line of a task is one of memory.
use Rattle.device_rows.proofs.Placed.{first_in_memory}
use Rattle.device_acts.proofs.allowed.may_finish.Goals as goal

pub finish_row-requires-clause-memory : goal.finish_row-requires-clause-memory
finish_row-requires-clause-memory c =
    first_in_memory _ _ c.args.task.now c.requires.steady (c.requires.steady.tasks _ c.args.task.now c.requires.stands)
