-- The parts of an event with borrowed payloads: the values that they make up. Every rule here is an own rule.
use Rattle.std.specs.Prelude.{ℕ}
use Rattle.cxl_message.specs.declared.messages.Message.{Message}
use Rattle.cxl_message.specs.declared.events.Op.{Op}
use Rattle.cxl_message.specs.declared.events.Cause.{Cause}
use Rattle.cxl_message.specs.declared.events.Out.{Out}
use Rattle.cxl_message.specs.declared.events.Sends.{Sends}
use Rattle.cxl_message.specs.declared.events.Commit.{Commit}
use Rattle.event_room.specs.declared.messages.MessageRef.{MessageRef}
use Rattle.event_room.specs.declared.operations.OpRef.{OpRef}
use Rattle.event_room.specs.declared.parts.CauseRef.{CauseRef}
use Rattle.event_room.specs.declared.parts.OutRef.{OutRef}
use Rattle.event_room.specs.declared.parts.SendsRef.{SendsRef}
use Rattle.event_room.specs.declared.parts.CommitRef.{CommitRef}
use Rattle.event_room.specs.Heads.{with_payload, op_with}

-- the message of a head and a payload
abbrev pub message_of : MessageRef → Message
message_of m = with_payload m.head (record { 0 = m.payload.now })

-- the operation of a head and a payload
abbrev pub op_of : OpRef → Op
op_of o = op_with o.head (record { 0 = o.payload.now })

-- the cause of these parts
abbrev pub cause_of : CauseRef → Cause
cause_of (CauseRef.Op stream index op) = Cause.Op stream index (op_of op)
cause_of (CauseRef.Take host message) = Cause.Take host (message_of message)
cause_of (CauseRef.Act act) = Cause.Act act

-- the sent message of these parts
abbrev pub out_of : OutRef → Out
out_of o = record { host = o.host; message = message_of o.message }

-- the messages that are sent, in order
abbrev pub sends_of : SendsRef → Sends
sends_of SendsRef.Nothing = Sends.Nothing
sends_of (SendsRef.One first) = Sends.One (out_of first)
sends_of (SendsRef.Two first second) = Sends.Two (out_of first) (out_of second)

-- the commit of these parts
abbrev pub commit_of : CommitRef → Commit
commit_of c = record { stream = c.stream; index = c.index; op = op_of c.op; value = record { 0 = c.value.now } }
