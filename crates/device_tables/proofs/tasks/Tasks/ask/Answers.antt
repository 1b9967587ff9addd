-- The task with that first line is changed in its place.
use Rattle.std.proofs.Common.{List, ℕ, ap, sym, ◌∙◌, ◌+◌, vec_capacity}
use Rattle.std.specs.Prelude.{position, ◌==◌}
use Rattle.device_record.specs.Record.{TaskRecord}
use Rattle.device_record.specs.Tables.{changed_at}
use Rattle.device_record.specs.TaskChanges.{lines_still_left}
use Rattle.snoop_filter.specs.Victims.{block_from, block_lines}
use Rattle.device_tables.proofs.TaskLists.{found_low, list_changed, list_unchanged}
use Rattle.device_tables.proofs.tasks.Tasks.ask.Goals as goal

pub returns-in-Some : goal.returns-in-Some
returns-in-Some c =
    let found = ap (position (λ (t : TaskRecord). t.first == c.args.line)) (sym c.deref.ensures.value) ∙ sym c.in-Some.ensures in
    list_changed c.self.inside.tasks.items (vec_capacity c.self.inside.tasks) c.args.self.now c.args.line (λ (t : TaskRecord). record t { left = changed_at c.args.host (λ old. block_lines (block_from t.first t.span)) t.left }) c.in-Some.place c.index_mut-task.result.now c.ask.new.self
    c.self.view_is c.requires found c.index_mut-task.ensures.value c.ask.ensures

pub returns-in_default : goal.returns-in_default
returns-in_default c =
    list_unchanged c.self.inside.tasks.items (vec_capacity c.self.inside.tasks) c.args.self.now c.args.line (λ (t : TaskRecord). record t { left = changed_at c.args.host (λ old. block_lines (block_from t.first t.span)) t.left }) c.self.view_is
    (ap (position (λ (t : TaskRecord). t.first == c.args.line)) (sym c.deref.ensures.value) ∙ sym c.in_default.ensures)
