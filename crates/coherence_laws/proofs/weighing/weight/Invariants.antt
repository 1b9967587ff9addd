-- All that is in flight, and the hosts so far, are weighed.
use Rattle.coherence_laws.proofs.Weighed.{WeighsSoFar}
use Rattle.coherence_laws.proofs.weighing.weight.Given as goal

abbrev pub invariant-loop-host : goal.invariant-loop-host
invariant-loop-host l = WeighsSoFar l.machine l.host l.total
