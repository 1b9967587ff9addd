-- Those so far that may be taken are counted.
use Rattle.std.proofs.Common.{◌≡◌, ◌≤◌}
use Rattle.link_queues.specs.Queues.{takeable_before}
use Rattle.link_queues.proofs.queues.MessageQueue.takeable_count.Given as goal

abbrev pub invariant-loop-at : goal.invariant-loop-at
invariant-loop-at l = (l.count ≡ takeable_before l.self.messages l.at) × (l.count ≤ l.at)
