-- No message so far is equal.
use Rattle.std.proofs.Common.{◌≤◌}
use Rattle.std.specs.List.{position_or_len}
use Rattle.cxl_message.specs.Messages.{message_eq}
use Rattle.event_room.specs.Parts.{message_of}
use Rattle.link_queues.proofs.queues.MessageQueue.place_of.Given as goal

abbrev pub invariant-loop-at : goal.invariant-loop-at
invariant-loop-at l = l.at ≤ position_or_len (message_eq (message_of l.message)) l.self.messages
