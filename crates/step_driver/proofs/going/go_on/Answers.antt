-- A turn whose event has room goes on, and any other ends the trace.
use Rattle.std.proofs.Common.{ap, arith, refl, subst, sym, ◌∙◌, ◌∷◌}
use Rattle.std.specs.Prelude.{get_or, nat_lt}
use Rattle.coherence_model.specs.Driven.{picks_left}
use Rattle.step_driver.specs.Picks.{IsTurned}
use Rattle.step_driver.specs.Schedules.{IsAt}
use Rattle.step_driver.proofs.Ways.{done_ends, goes_on, has_journal, stops}
use Rattle.step_driver.proofs.going.go_on.Goals as goal

pub turn-requires-clause-kept : goal.turn-requires-clause-kept
turn-requires-clause-kept c = (c.requires.at.0, c.requires.at.1.kept)

pub returns-then-not-turn-clause-ends : goal.returns-then-not-turn-clause-ends
returns-then-not-turn-clause-ends c t at _ = done_ends c.args.schedule c.args.script.now c.args.picks.now t at.way (c.if-not-turn.ensures.ends t at.kept refl)

pub enter-requires : goal.enter-requires
enter-requires c =
    let script = c.args.script.now in
    let t = c.requires.at.0 in
    let at = c.requires.at.1 in
    let turned = c.if-not-turn.ensures.goes t at.kept refl in
    let low = has_journal script c.requires.drivable c.turn.new.machine c.turn.new.table t c.turn.new.made turned.kept in
    let size = at.journaled.sized in
    omega (arith, low, size)

pub returns-clause-ends : goal.returns-clause-ends
returns-clause-ends c t at full =
    let script = c.args.script.now in
    let turned = subst (λ p. IsTurned script c.turn.new.machine c.turn.new.table p t c.turn.new.made) c.pick_of.ensures (c.if-not-turn.ensures.goes t at.kept refl) in
    stops c.args.schedule script c.requires.drivable c.args.machine.now c.turn.new.machine c.args.table.now c.turn.new.table c.args.journals.now.0 c.args.picks.now t c.turn.new.made at turned
    (ap (λ room. nat_lt (get_or c.args.journals.now.0 c.turn.new.made.agent 0) room) (sym c.room.ensures) ∙ sym c.enter.ensures.room ∙ full)

pub returns-clause-goes : goal.returns-clause-goes
returns-clause-goes c t at has =
    let script = c.args.script.now in
    let turned = subst (λ p. IsTurned script c.turn.new.machine c.turn.new.table p t c.turn.new.made) c.pick_of.ensures (c.if-not-turn.ensures.goes t at.kept refl) in
    subst (λ journals. IsAt c.args.schedule script c.turn.new.machine c.turn.new.table journals (picks_left c.args.picks.now) (c.turn.new.made ∷ t)) (sym (c.enter.ensures.counted has))
    (goes_on c.args.schedule script c.requires.drivable c.args.machine.now c.turn.new.machine c.args.table.now c.turn.new.table c.args.journals.now.0 c.args.picks.now t c.turn.new.made at turned
    (ap (λ room. nat_lt (get_or c.args.journals.now.0 c.turn.new.made.agent 0) room) (sym c.room.ensures) ∙ sym c.enter.ensures.room ∙ has))
