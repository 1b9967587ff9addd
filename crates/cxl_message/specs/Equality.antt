-- The tests of equality hold exactly where both are the same.
use Rattle.std.specs.Prelude.{IsTrue, ◌↔◌, ◌≡◌}
use Rattle.cxl_message.specs.declared.channels.Channel.{Channel}
use Rattle.cxl_message.specs.declared.events.Commit.{Commit}
use Rattle.cxl_message.specs.declared.events.Op.{Op}
use Rattle.cxl_message.specs.declared.events.Out.{Out}
use Rattle.cxl_message.specs.declared.events.Sends.{Sends}
use Rattle.cxl_message.specs.declared.identifiers.Bytes64.{Bytes64}
use Rattle.cxl_message.specs.declared.messages.Message.{Message}
use Rattle.cxl_message.specs.Codes.{bytes_eq, channel_eq}
use Rattle.cxl_message.specs.Events.{commit_eq, op_eq, out_eq, sends_eq}
use Rattle.cxl_message.specs.Messages.{message_eq}

-- two messages with the same key are the same
abbrev pub MessagesDecide : Type 0
MessagesDecide = (m n : Message) → IsTrue (message_eq m n) ↔ (m ≡ n)

-- so are two sent messages, hosts included
abbrev pub OutsDecide : Type 0
OutsDecide = (o p : Out) → IsTrue (out_eq o p) ↔ (o ≡ p)

-- so is what two events send
abbrev pub SendsDecide : Type 0
SendsDecide = (s t : Sends) → IsTrue (sends_eq s t) ↔ (s ≡ t)

-- so are two operations
abbrev pub OperationsDecide : Type 0
OperationsDecide = (x y : Op) → IsTrue (op_eq x y) ↔ (x ≡ y)

-- so are two commits
abbrev pub CommitsDecide : Type 0
CommitsDecide = (c d : Commit) → IsTrue (commit_eq c d) ↔ (c ≡ d)

-- so are two channels
abbrev pub ChannelsDecide : Type 0
ChannelsDecide = (c d : Channel) → IsTrue (channel_eq c d) ↔ (c ≡ d)

-- so are the bytes of two lines
abbrev pub LinesDecide : Type 0
LinesDecide = (x y : Bytes64) → IsTrue (bytes_eq x y) ↔ (x ≡ y)
