-- Where no step is next nothing is pending, and streams go on.
use Rattle.coherence_laws.proofs.Rested.{none_is_next, nothing_pends, streams_are_offered}
use Rattle.coherence_laws.proofs.resting.quiet.Goals as goal

pub returns-clause-none : goal.returns-clause-none
returns-clause-none c = none_is_next c.args.machine.now c.choices.result c.choices.ensures.count

pub returns-clause-rest : goal.returns-clause-rest
returns-clause-rest c = nothing_pends c.args.machine.now c.choices.result c.choices.ensures.count

pub returns-clause-offers : goal.returns-clause-offers
returns-clause-offers c = streams_are_offered c.args.machine.now c.choices.result c.choices.ensures.count
