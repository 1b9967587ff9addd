use Rattle.std.proofs.Common.{Some, subst}
use Rattle.step_driver.specs.Picks.{IsChosen}
use Rattle.step_driver.proofs.turns.take.Goals as goal

pub returns-in-Offer : goal.returns-in-Offer
returns-in-Offer c =
    record { taken = λ t kept pick is. c.begin.ensures.begun t kept pick (subst (λ choice. IsChosen c.args.script.now c.args.machine.now t pick (Some choice)) c.in-Offer.is is) }
