-- The channels so far are summed.
use Rattle.std.proofs.Common.{◌≡◌, ◌≤◌, ◌*◌, take}
use Rattle.std.specs.Prelude.{sum_by}
use Rattle.coherence_model.specs.Next.{channels}
use Rattle.coherence_model.specs.Weight.{message_weight}
use Rattle.link_queues.specs.Links.{waiting_on}
use Rattle.link_queues.proofs.links.LinkQueues.weight_of_host.Given as goal

abbrev pub invariant-loop-at : goal.invariant-loop-at
invariant-loop-at l = (l.sum ≡ sum_by (λ c. sum_by (message_weight l.self.hosts) (waiting_on l.self l.host c)) (take l.at channels)) × (l.sum ≤ 329664 * l.at)
