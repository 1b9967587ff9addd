-- The device's memory, by its own events, newest first.
use Rattle.std.specs.Prelude.{List, None, Option, Some, [], if◌then◌else◌, option_and_then, ℕ, ◌==◌, ◌∷◌}
use Rattle.cxl_message.specs.declared.events.Act.{Act}
use Rattle.cxl_message.specs.declared.events.Cause.{Cause}
use Rattle.cxl_message.specs.declared.events.Event.{Event}
use Rattle.cxl_message.specs.declared.identifiers.Bytes64.{Bytes64}
use Rattle.cxl_message.specs.declared.identifiers.Line.{Line}
use Rattle.cxl_message.specs.declared.messages.Message.{Message}
use Rattle.cxl_message.specs.Opening.{bytes_at}
use Rattle.coherence_model.specs.Buffers.{buffered_writes, message_with}

-- the line that a message writes, with its bytes (CXL 3.1, ch. 3: MemWr)
abbrev pub write_in : Message → Option (ℕ × Bytes64)
write_in (Message.Req _ _ _ _ _) = None
write_in (Message.MemWr _ _ _ line bytes) = Some (line.0, bytes)
write_in (Message.BiConflict _) = None
write_in (Message.BiRsp _ _ _) = None
write_in (Message.Ndr _ _) = None
write_in (Message.MemData _ _) = None
write_in (Message.BiSnp _ _ _ _) = None
write_in (Message.Credit _) = None

-- line a of memory after a write was served, if one was (own rule)
abbrev pub memory_after_write : ℕ → Option (ℕ × Bytes64) → Bytes64 → Bytes64
memory_after_write a None old = old
memory_after_write a (Some w) old = if w.0 == a then w.1 else old

-- line a of memory after an act: Serve of a MemWr writes it (own rule)
abbrev pub memory_after_act : ℕ → Act → List Event → Bytes64 → Bytes64
memory_after_act a (Act.Conflict _) past old = old
memory_after_act a (Act.WriteBack _) past old = old
memory_after_act a (Act.Answer _) past old = old
memory_after_act a (Act.AnswerBlock _) past old = old
memory_after_act a (Act.HostReturn _) past old = old
memory_after_act a (Act.Serve host tag) past old = memory_after_write a (option_and_then write_in (message_with tag.0 (buffered_writes host past))) old
memory_after_act a (Act.Clean _ _) past old = old
memory_after_act a (Act.Start _ _) past old = old
memory_after_act a (Act.Evict _ _) past old = old
memory_after_act a (Act.Snoop _ _) past old = old
memory_after_act a (Act.Finish _) past old = old
memory_after_act a (Act.DeviceReturn _ _) past old = old

-- line a of memory after a cause (own rule)
abbrev pub memory_after : ℕ → Cause → List Event → Bytes64 → Bytes64
memory_after a (Cause.Op _ _ _) past old = old
memory_after a (Cause.Take _ _) past old = old
memory_after a (Cause.Act act) past old = memory_after_act a act past old

-- line a of memory: the opening's bytes, or those of the last MemWr served (own rule)
abbrev pub memory : List (Line × Bytes64) → ℕ → List Event → Bytes64
memory opening a [] = bytes_at opening a
memory opening a (e ∷ past) = memory_after a e.cause past (memory opening a past)
