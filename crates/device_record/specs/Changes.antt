-- What an event of the device does to what it keeps, by its cause and by what it sends.
use Rattle.std.specs.Prelude.{List, None, Option, Some, option_and_then, slice_set, ℕ}
use Rattle.cxl_message.specs.declared.events.Act.{Act}
use Rattle.cxl_message.specs.declared.events.Cause.{Cause}
use Rattle.cxl_message.specs.declared.events.Sends.{Sends}
use Rattle.cxl_message.specs.declared.identifiers.Bytes64.{Bytes64}
use Rattle.cxl_message.specs.Setup.{Configuration}
use Rattle.coherence_model.specs.Buffers.{message_with}
use Rattle.coherence_model.specs.Memory.{write_in}
use Rattle.device_record.specs.Record.{DeviceRecord, writes_at}
use Rattle.device_record.specs.RowChanges.{rows_in}
use Rattle.device_record.specs.ReservationChanges.{reserved_in}
use Rattle.device_record.specs.TaskChanges.{tasks_in}
use Rattle.device_record.specs.BufferChanges.{requests_in, writes_in}
use Rattle.device_record.specs.CreditChanges.{credits_in}

-- memory after a write, if there is one: a line and its bytes (own rule)
abbrev pub memory_written : Option (ℕ × Bytes64) → List Bytes64 → List Bytes64
memory_written None memory = memory
memory_written (Some w) memory = slice_set memory w.0 w.1

-- memory after an act: Serve of a MemWr writes its line (own rule)
abbrev pub memory_after_act : Act → DeviceRecord → List Bytes64
memory_after_act (Act.Conflict _) k = k.memory
memory_after_act (Act.WriteBack _) k = k.memory
memory_after_act (Act.Answer _) k = k.memory
memory_after_act (Act.AnswerBlock _) k = k.memory
memory_after_act (Act.HostReturn _) k = k.memory
memory_after_act (Act.Serve h tag) k = memory_written (option_and_then write_in (message_with tag.0 (writes_at h k.writes))) k.memory
memory_after_act (Act.Clean _ _) k = k.memory
memory_after_act (Act.Start _ _) k = k.memory
memory_after_act (Act.Evict _ _) k = k.memory
memory_after_act (Act.Snoop _ _) k = k.memory
memory_after_act (Act.Finish _) k = k.memory
memory_after_act (Act.DeviceReturn _ _) k = k.memory

-- memory after a cause (own rule)
abbrev pub memory_in : Cause → DeviceRecord → List Bytes64
memory_in (Cause.Op _ _ _) k = k.memory
memory_in (Cause.Take _ _) k = k.memory
memory_in (Cause.Act act) k = memory_after_act act k

-- what is kept after an event with this cause that sends this (own rule)
abbrev pub device_after : Configuration → Cause → Sends → DeviceRecord → DeviceRecord
device_after setup cause sends k =
    record {
      memory = memory_in cause k;
      filter = record k.filter { rows = rows_in setup cause sends k; reserved = reserved_in cause k };
      tasks = tasks_in setup cause k;
      requests = requests_in cause k;
      writes = writes_in cause k.writes;
      credits = credits_in cause sends k.credits;
    }
