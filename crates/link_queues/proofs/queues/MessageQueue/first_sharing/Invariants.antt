-- No message so far has the Tag.
use Rattle.std.proofs.Common.{◌≤◌}
use Rattle.std.specs.List.{position_or_len}
use Rattle.coherence_model.specs.Flight.{shares_tag}
use Rattle.event_room.specs.Parts.{message_of}
use Rattle.link_queues.proofs.queues.MessageQueue.first_sharing.Given as goal

abbrev pub invariant-loop-at : goal.invariant-loop-at
invariant-loop-at l = l.at ≤ position_or_len (shares_tag (message_of l.message)) l.self.messages
