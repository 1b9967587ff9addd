-- Those so far that may be taken are counted, and the one of the number isn't among them.
use Rattle.std.proofs.Common.{◌≡◌, ◌≤◌}
use Rattle.link_queues.specs.Queues.{takeable_before}
use Rattle.link_queues.proofs.queues.MessageQueue.takeable_at.Given as goal

abbrev pub invariant-loop-at : goal.invariant-loop-at
invariant-loop-at l = (l.passed ≡ takeable_before l.self.messages l.at) × ((l.passed ≤ l.at) × (l.passed ≤ l.k))
