-- The queues so far.
use Rattle.std.proofs.Common.{◌≡◌, [], map}
use Rattle.std.specs.Prelude.{vec_len}
use Rattle.cxl_message.specs.Lists.{below}
use Rattle.link_queues.specs.Links.{queue_after}
use Rattle.link_queues.proofs.links.open_queues.Given as goal

abbrev pub invariant-loop-place : goal.invariant-loop-place
invariant-loop-place l = (l.queues.items ≡ map (queue_after l.setup []) (below l.place)) × (vec_len l.queues ≡ l.place)
