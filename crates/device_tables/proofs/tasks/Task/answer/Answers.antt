-- The lines left to the host that answers are those before less what it answers.
use Rattle.std.proofs.Common.{List, ℕ, ap, ◌+◌}
use Rattle.block_snoop.specs.Answering.{LeftRecord}
use Rattle.device_record.specs.Record.{TaskRecord}
use Rattle.device_record.specs.TaskChanges.{lines_still_left}
use Rattle.device_tables.proofs.Lefts.{block_at, task_changed, task_kept}
use Rattle.device_tables.proofs.tasks.Task.answer.Goals as goal

pub after_answer-requires : goal.after_answer-requires
after_answer-requires c = block_at c.self.inside c.args.host c.index-self-host.result c.self.invariant c.if-host-self.true

pub invariant_of-self : goal.invariant_of-self
invariant_of-self c = task_kept c.self.inside c.args.host c.after_answer.result c.self.invariant (ap (λ (l : LeftRecord). l.block) c.after_answer.ensures)

pub returns-then-host-self : goal.returns-then-host-self
returns-then-host-self c =
    task_changed c.self.inside c.args.self.now c.args.host c.index-self-host.result c.after_answer.result (λ (t : TaskRecord) (old : List ℕ). lines_still_left c.args.op (t.first + c.args.low) old) c.self.view_is c.self.invariant c.if-host-self.true
    (ap (λ (l : LeftRecord). l.left) c.after_answer.ensures)
