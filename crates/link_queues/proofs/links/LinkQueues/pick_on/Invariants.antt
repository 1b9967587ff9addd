-- The one wanted stands so many after those of the channels so far.
use Rattle.std.proofs.Common.{◌≡◌, ◌+◌, length, take}
use Rattle.std.specs.Prelude.{flat_map}
use Rattle.coherence_model.specs.Next.{channels}
use Rattle.link_queues.specs.Links.{waiting_on}
use Rattle.link_queues.specs.Queues.{takeable_in}
use Rattle.link_queues.proofs.links.LinkQueues.pick_on.Given as goal

abbrev pub invariant-loop-at : goal.invariant-loop-at
invariant-loop-at l = l.k ≡ length (flat_map (λ c. takeable_in (waiting_on l.self l.host c)) (take l.at channels)) + l.left
