-- How the device's slots belong together (own rule).
use Rattle.std.specs.Prelude.{List, None, Option, Some, length, map, sum_by, if◌then◌else◌, [], slice_get, unwrap_or, ℕ, ◌*◌, ◌+◌, ◌==◌, ◌≡◌, ◌≤◌}
use Rattle.cxl_message.specs.declared.identifiers.Bytes64.{Bytes64}
use Rattle.line_pool.specs.Pools.{Pool, line_of}
use Rattle.device_lines.specs.declared.buffers.Write.{Write}
use Rattle.device_lines.specs.Buffered.{bytes_of, messages_of}
use Rattle.device_lines.specs.Lines.{LinesRecord}

-- 1 for the slot that is looked for (own rule)
abbrev pub is_slot : ℕ → ℕ → ℕ
is_slot s t = if t == s then 1 else 0

-- 1 for a buffered message in the slot that is looked for (own rule)
abbrev pub slot_times : ℕ → Write → ℕ
slot_times s (Write.Line _ _ _ _ slot) = is_slot s slot
slot_times s (Write.Conflict _) = 0

-- how often a host's buffered messages name a slot (own rule)
abbrev pub buffer_times : ℕ → List Write → ℕ
buffer_times s ws = sum_by (slot_times s) ws

-- how often a slot is named: by lines and by buffered messages (own rule)
abbrev pub times_named : ℕ → List ℕ → List (List Write) → ℕ
times_named s lines buffers = sum_by (is_slot s) lines + sum_by (buffer_times s) buffers

-- 1 for a buffered message that has a slot (own rule)
abbrev pub slots_of : Write → ℕ
slots_of (Write.Line _ _ _ _ _) = 1
slots_of (Write.Conflict _) = 0

-- how many slots a host's buffered messages have (own rule)
abbrev pub buffer_slots : List Write → ℕ
buffer_slots ws = sum_by slots_of ws

-- 1 for a slot in use (own rule)
abbrev pub one_in_use : Option (List ℕ) → ℕ
one_in_use None = 0
one_in_use (Some _) = 1

-- each slot in use is named once, by a line or a buffered message, and no other is named; the slots that are spare and those of buffered messages are together as many as messages may be buffered; and no host has more (own rule)
pub record IsShared (pool : Pool) (lines : List ℕ) (buffers : List (List Write)) (room : ℕ) : Type 0 where
  pub named : (s : ℕ) → times_named s lines buffers ≡ one_in_use (line_of pool s)
  pub spare : pool.spare + sum_by buffer_slots buffers ≡ length buffers * room
  pub fits : (h : ℕ) → length (unwrap_or (slice_get buffers h) []) ≤ room
  pub most : room ≤ 64

-- memory and the buffered messages, with their bytes (own rule)
abbrev pub lines_seen : Pool → List ℕ → List (List Write) → ℕ → LinesRecord
lines_seen pool lines buffers room = record { memory = map (bytes_of pool) lines; writes = map (messages_of pool) buffers; room = room }
