-- The insertion succeeds, since there is room, and puts the task in its place.
use Rattle.std.proofs.Common.{ap, ◌∙◌, rules}
use Rattle.std.specs.Prelude.{insert}
use Rattle.device_tables.specs.Changing.{place_in_order}
use Rattle.device_tables.proofs.Places.{chosen, put_at_place}
use Rattle.device_tables.proofs.tasks.put_task.Goals as goal

pub returns-clause-items : goal.returns-clause-items
returns-clause-items c =
    let items = c.args.tasks.now.items in
    let task = c.args.task in
    let place = c.place_of-place.ensures.place ∙ ap (place_in_order c.first.result) c.deref.ensures.value ∙ ap (λ a. place_in_order a items) c.first.ensures in
    c.insert.ensures.items ∙ chosen _ (c.insert.ensures.succeeds c.requires) _ _ ∙ ap (λ k. insert items k task) place ∙ put_at_place task items

pub returns-clause-capacity : goal.returns-clause-capacity
returns-clause-capacity c = let same = c.insert.ensures.in_place c.requires in search rules
