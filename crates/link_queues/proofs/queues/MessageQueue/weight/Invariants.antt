-- The messages so far are summed.
use Rattle.std.proofs.Common.{◌≡◌, ◌≤◌, ◌*◌, take}
use Rattle.std.specs.Prelude.{sum_by}
use Rattle.coherence_model.specs.Weight.{message_weight}
use Rattle.link_queues.proofs.queues.MessageQueue.weight.Given as goal

abbrev pub invariant-loop-at : goal.invariant-loop-at
invariant-loop-at l = (l.sum ≡ sum_by (message_weight l.hosts) (take l.at l.self.messages)) × (l.sum ≤ 1717 * l.at)
