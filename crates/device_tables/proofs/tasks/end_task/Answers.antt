-- The tasks after the place that was found is taken out.
use Rattle.std.proofs.Common.{ap, sym, ◌∙◌}
use Rattle.std.specs.Prelude.{position, ◌==◌}
use Rattle.device_record.specs.Record.{TaskRecord}
use Rattle.device_tables.proofs.TaskLists.{removed_found, removed_nowhere}
use Rattle.device_tables.proofs.tasks.end_task.Goals as goal

pub returns-in-Some-clause-items : goal.returns-in-Some-clause-items
returns-in-Some-clause-items c =
    let found = ap (position (λ (t : TaskRecord). t.first == c.args.line)) (sym c.deref.ensures.value) ∙ sym c.in-Some.ensures in
    c.remove-ended.ensures.items ∙ removed_found c.args.line c.args.tasks.now.items c.in-Some.place c.remove-ended.result c.requires found

pub returns-in_default-clause-items : goal.returns-in_default-clause-items
returns-in_default-clause-items c =
    let found = ap (position (λ (t : TaskRecord). t.first == c.args.line)) (sym c.deref.ensures.value) ∙ sym c.in_default.ensures in
    removed_nowhere c.args.line c.args.tasks.now.items found
