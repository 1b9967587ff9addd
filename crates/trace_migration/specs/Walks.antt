-- What a walk over the items of some bytes has read, and what is left of them. Every rule here is an own rule.
use Rattle.std.specs.Prelude.{◌≡◌, ℕ, ◌+◌, List, [], ◌++◌, length, None}
use Rattle.trace_stream.specs.declared.items.Item.{Item}
use Rattle.trace_stream.specs.Readings.{IsDrained, Reading}
use Rattle.trace_stream.specs.Runs.{HasRead}

-- what the reader has read, and the bytes that it wasn't given yet
pub record Walking : Type 0 where
  pub reading : Reading
  pub rest : List ℕ

-- how many bytes are left
abbrev pub left : Walking → ℕ
left walking = length walking.reading.waiting + length walking.rest

-- a walk over these bytes has given these items
pub record IsAt (bytes : List ℕ) (items : List Item) (walking : Walking) : Type 0 where
  pub read : List ℕ
  pub split : bytes ≡ read ++ walking.rest
  pub has : HasRead read items walking.reading

-- it has given these items, and gives no other: all bytes were read, or a fault was met
pub record IsOver (bytes : List ℕ) (items : List Item) (walking : Walking) : Type 0 where
  pub read : List ℕ
  pub lost : List ℕ
  pub split : bytes ≡ read ++ lost
  pub has : HasRead read items walking.reading
  pub drained : IsDrained walking.reading
  pub all : walking.reading.fault ≡ None → lost ≡ []
