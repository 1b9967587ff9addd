-- What was applied goes on a run, and the laws of every run hold of it.
use Rattle.coherence_laws.proofs.Advanced.{coherent_after, weight_after}
use Rattle.coherence_laws.proofs.advancing.advance.Goals as goal

pub returns-clause-coherent : goal.returns-clause-coherent
returns-clause-coherent c = coherent_after c.args.machine.now c.apply.new.self c.args.event.now c.apply.result c.apply.ensures.goes_on

pub returns-clause-weight : goal.returns-clause-weight
returns-clause-weight c = weight_after c.args.machine.now c.apply.new.self c.args.event.now c.apply.result c.apply.ensures.goes_on
