-- The hosts so far are counted.
use Rattle.link_queues.proofs.Numbers.{IsCountedTo}
use Rattle.link_queues.proofs.counted.counts.Given as goal

abbrev pub invariant-loop-host : goal.invariant-loop-host
invariant-loop-host l = IsCountedTo l.queues l.takeable.items l.host
