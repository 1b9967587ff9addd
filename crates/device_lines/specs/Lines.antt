-- What is seen of the device's lines: memory, and the buffered RwD messages of each host.
use Rattle.std.specs.Prelude.{List, Option, option_and_then, option_map, ℕ}
use Rattle.cxl_message.specs.declared.identifiers.Bytes64.{Bytes64}
use Rattle.cxl_message.specs.declared.messages.Message.{Message}
use Rattle.cxl_message.specs.declared.identifiers.Tag.{Tag}
use Rattle.cxl_message.specs.declared.opcodes.Meta.{Meta}
use Rattle.cxl_message.specs.declared.opcodes.NdrOp.{NdrOp}
use Rattle.coherence_model.specs.Buffers.{message_with, without_tag}
use Rattle.coherence_model.specs.Memory.{write_in}
use Rattle.device_record.specs.Changes.{memory_written}
use Rattle.device_record.specs.Record.{writes_at}
use Rattle.device_record.specs.Tables.{changed_at}
use Rattle.device_lines.specs.declared.buffers.Served.{Served}

-- memory by line, for each host its buffered RwD messages in the order taken, and how many of a host there are at most (own rule)
pub record LinesRecord : Type 0 where
  pub memory : List Bytes64
  pub writes : List (List Message)
  pub room : ℕ

-- what a buffered RwD message is (own rule)
abbrev pub served_message : Message → Served
served_message (Message.Req _ _ _ _ _) = Served.Conflict
served_message (Message.MemWr meta _ _ line _) = Served.Write meta line
served_message (Message.BiConflict _) = Served.Conflict
served_message (Message.BiRsp _ _ _) = Served.Conflict
served_message (Message.Ndr _ _) = Served.Conflict
served_message (Message.MemData _ _) = Served.Conflict
served_message (Message.BiSnp _ _ _ _) = Served.Conflict
served_message (Message.Credit _) = Served.Conflict

-- the line and the bytes that a buffered message of a host would write (own rule)
abbrev pub write_of : ℕ → ℕ → List (List Message) → Option (ℕ × Bytes64)
write_of h tag writes = option_and_then write_in (message_with tag (writes_at h writes))

-- an NDR message with a tag (own rule)
abbrev pub ndr_with : Tag → NdrOp → Message
ndr_with tag op = Message.Ndr op tag

-- what is seen after the message of a host with a tag is served: a MemWr writes its line, and the message is gone (own rule)
abbrev pub served_record : ℕ → ℕ → LinesRecord → LinesRecord
served_record h tag v = record { memory = memory_written (write_of h tag v.writes) v.memory; writes = changed_at h (without_tag tag) v.writes; room = v.room }
