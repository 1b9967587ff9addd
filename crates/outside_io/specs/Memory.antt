-- What is seen of a source and of a sink in memory (own rule).
use Rattle.std.specs.Prelude.{ℕ, ◌+◌, ◌-◌, ◌<◌, ◌≤◌, min, List, ◌++◌, length, take, drop, Result, Ok, Err}

-- a source in memory: what is left, the most bytes that a read gives, the numbers of the reads that fail, and how many reads and faults there were (own rule)
pub record SourceState : Type 0 where
  pub left : List ℕ
  pub chunk : ℕ
  pub fails : List ℕ
  pub reads : ℕ
  pub faults : ℕ

-- how many bytes a read into this much space gives (own rule)
abbrev pub read_len : SourceState → ℕ → ℕ
read_len source space = min source.chunk (min space (length source.left))

-- the source after a read with this result (own rule)
abbrev pub after_read : {E : Type 0} → SourceState → Result ℕ E → SourceState
after_read source (Ok n) = record source { left = drop n source.left; reads = source.reads + 1 }
after_read source (Err e) = record source { reads = source.reads + 1; faults = source.faults + 1 }

-- a sink in memory: what has gone to it, the most bytes that it takes at all and in one write, the numbers of the writes that fail, and how many writes and faults there were (own rule)
pub record SinkState : Type 0 where
  pub gone : List ℕ
  pub room : ℕ
  pub chunk : ℕ
  pub fails : List ℕ
  pub writes : ℕ
  pub faults : ℕ

-- how many bytes more the sink takes (own rule)
abbrev pub room_left : SinkState → ℕ
room_left sink = sink.room - length sink.gone

-- there are bytes to write, and no room is left (own rule)
abbrev pub IsFullFor : SinkState → List ℕ → Type 0
IsFullFor sink bytes = (0 < length bytes) × (sink.room ≤ length sink.gone)

-- how many of these bytes a write takes (own rule)
abbrev pub write_len : SinkState → List ℕ → ℕ
write_len sink bytes = min sink.chunk (min (length bytes) (room_left sink))

-- the sink after a write of these bytes with this result (own rule)
abbrev pub after_write : {E : Type 0} → SinkState → List ℕ → Result ℕ E → SinkState
after_write sink bytes (Ok n) = record sink { gone = sink.gone ++ take n bytes; writes = sink.writes + 1 }
after_write sink bytes (Err e) = record sink { writes = sink.writes + 1; faults = sink.faults + 1 }
