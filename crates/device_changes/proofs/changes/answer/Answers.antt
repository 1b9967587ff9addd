-- An answer is one to the snoop of a task.
use Rattle.std.proofs.Common.{ap, refl, subst, sym, ℕ}
use Rattle.device_changes.specs.Acting.{IsAnswer}
use Rattle.device_changes.proofs.Takes.{answer_may, take_inside}
use Rattle.device_changes.proofs.changes.answer.Goals as goal

pub answered-requires-clause-answers : goal.answered-requires-clause-answers
answered-requires-clause-answers c =
    let may = take_inside _ _ _ _ c.args.host c.tables.view_is refl c.requires in
    subst (λ (n : ℕ). IsAnswer c.args.op c.args.host n c.args.low c.tables.inside.tasks.tasks c.tables.inside.filter) (sym c.from-first.ensures)
    (answer_may _ _ c.args.host c.args.op c.args.bitag c.args.low may)
