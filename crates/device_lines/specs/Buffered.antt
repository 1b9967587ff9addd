-- How a buffered RwD message is kept, and what it is seen as.
use Rattle.std.specs.Prelude.{Bool, List, None, Option, Some, [], if◌then◌else◌, map, replicate, unwrap_or, ℕ, ◌==◌, ◌∷◌}
use Rattle.cxl_message.specs.declared.identifiers.Bytes64.{Bytes64}
use Rattle.cxl_message.specs.declared.identifiers.Tag.{Tag}
use Rattle.cxl_message.specs.declared.messages.Message.{Message}
use Rattle.cxl_message.specs.declared.opcodes.NdrOp.{NdrOp}
use Rattle.line_pool.specs.Pools.{Pool, line_of}
use Rattle.device_lines.specs.declared.buffers.Served.{Served}
use Rattle.device_lines.specs.declared.buffers.Target.{Target}
use Rattle.device_lines.specs.declared.buffers.Write.{Write}

-- the tag of a buffered message (own rule)
abbrev pub tag_of_write : Write → Tag
tag_of_write (Write.Line _ _ tag _ _) = tag
tag_of_write (Write.Conflict tag) = tag

-- whether a buffered message has a tag (own rule)
abbrev pub has_write_tag : ℕ → Write → Bool
has_write_tag tag w = (tag_of_write w).0 == tag

-- the buffered messages without the first one that has a tag (own rule)
abbrev pub without_write : ℕ → List Write → List Write
without_write tag [] = []
without_write tag (w ∷ ws) = if has_write_tag tag w then ws else w ∷ without_write tag ws

-- what a buffered message is, without its bytes (own rule)
abbrev pub served_as : Write → Served
served_as (Write.Line meta _ _ line _) = Served.Write meta line
served_as (Write.Conflict _) = Served.Conflict

-- the bytes of a slot of a pool (own rule)
abbrev pub bytes_of : Pool → ℕ → Bytes64
bytes_of pool slot = record { 0 = unwrap_or (line_of pool slot) (replicate 64 0) }

-- a buffered message with its bytes (own rule)
abbrev pub message_of : Pool → Write → Message
message_of pool (Write.Line meta snp tag line slot) = Message.MemWr meta snp tag line (bytes_of pool slot)
message_of pool (Write.Conflict tag) = Message.BiConflict tag

-- those of a host (own rule)
abbrev pub messages_of : Pool → List Write → List Message
messages_of pool ws = map (message_of pool) ws

-- the opcode of the message that answers a buffered one (own rule)
abbrev pub completion_of : Write → NdrOp
completion_of (Write.Line _ _ _ _ _) = NdrOp.Cmp
completion_of (Write.Conflict _) = NdrOp.ConflictAck

-- what a buffered message writes, if it is a MemWr (own rule)
abbrev pub target_of : Write → Option Target
target_of (Write.Line _ _ _ line slot) = Some (record { line = line; slot = slot })
target_of (Write.Conflict _) = None
