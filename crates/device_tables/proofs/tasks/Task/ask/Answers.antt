-- All lines are left to the host that is asked.
use Rattle.std.proofs.Common.{List, ℕ, ap}
use Rattle.block_snoop.specs.Answering.{LeftRecord}
use Rattle.device_record.specs.Record.{TaskRecord}
use Rattle.snoop_filter.specs.Victims.{block_from, block_lines}
use Rattle.device_tables.proofs.Lefts.{task_changed, task_kept}
use Rattle.device_tables.proofs.tasks.Task.ask.Goals as goal

pub invariant_of-self : goal.invariant_of-self
invariant_of-self c = task_kept c.self.inside c.args.host c.new.result c.self.invariant (ap (λ (l : LeftRecord). l.block) c.new.ensures.all)

pub returns-then-host-self : goal.returns-then-host-self
returns-then-host-self c =
    task_changed c.self.inside c.args.self.now c.args.host c.index-self-host.result c.new.result (λ (t : TaskRecord) (old : List ℕ). block_lines (block_from t.first t.span)) c.self.view_is c.self.invariant c.if-host-self.true
    (ap (λ (l : LeftRecord). l.left) c.new.ensures.all)
