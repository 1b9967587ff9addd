-- Those of the channels so far are counted.
use Rattle.std.proofs.Common.{◌≡◌, ◌≤◌, ◌*◌, length, take}
use Rattle.std.specs.Prelude.{flat_map}
use Rattle.coherence_model.specs.Next.{channels}
use Rattle.link_queues.specs.Links.{waiting_on}
use Rattle.link_queues.specs.Queues.{takeable_in}
use Rattle.link_queues.proofs.links.LinkQueues.count_on.Given as goal

abbrev pub invariant-loop-at : goal.invariant-loop-at
invariant-loop-at l = (l.count ≡ length (flat_map (λ c. takeable_in (waiting_on l.self l.host c)) (take l.at channels))) × (l.count ≤ 192 * l.at)
