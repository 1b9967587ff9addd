-- A turn makes the choice of a pick, or all is done.
use Rattle.std.proofs.Common.{subst, sym, ◌∙◌}
use Rattle.step_driver.specs.Picks.{IsTurned}
use Rattle.step_driver.proofs.Turned.{has_chosen, may_count, turned}
use Rattle.step_driver.proofs.turns.turn.Goals as goal

pub unreachable-requires : goal.unreachable-requires
unreachable-requires c =
    let t = c.requires.kept.0 in
    let kept = c.requires.kept.1 in
    has_chosen c.args.script.now c.requires.drivable c.args.pick t kept.reached (sym (c.is_done.ensures t kept) ∙ c.if-is_done.false) (c.in_default.ensures.chosen t kept)

pub take-requires-clause-chosen : goal.take-requires-clause-chosen
take-requires-clause-chosen c =
    let t = c.requires.kept.0 in
    let kept = c.requires.kept.1 in
    (t, c.in-Some.ensures.kept t kept, c.args.pick, c.in-Some.ensures.chosen t kept)

pub note-requires : goal.note-requires
note-requires c =
    let t = c.requires.kept.0 in
    let kept = c.requires.kept.1 in
    let after = c.in-Some.ensures.kept t kept in
    let made = c.take.ensures.taken t after c.args.pick (c.in-Some.ensures.chosen t kept) in
    may_count c.args.script.now c.requires.drivable c.args.machine.now c.take.new.machine c.choose.new.table c.args.pick t c.take.new.made after made.is made.stands

pub returns-clause-goes : goal.returns-clause-goes
returns-clause-goes c t kept done =
    let after = c.in-Some.ensures.kept t kept in
    let made = c.take.ensures.taken t after c.args.pick (c.in-Some.ensures.chosen t kept) in
    subst (λ table. IsTurned c.args.script.now c.take.new.machine table c.args.pick t c.take.new.made) (sym c.note.ensures)
    (turned c.args.script.now c.requires.drivable c.args.machine.now c.take.new.machine c.choose.new.table c.args.pick t c.take.new.made after (sym (c.is_done.ensures t kept) ∙ c.if-is_done.false) made.is made.stands)
