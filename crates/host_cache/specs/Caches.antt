-- What is seen of a cache, and how its table, its region and its order belong together. All of it is an own rule.
use Rattle.std.specs.Prelude.{Bool, List, None, false, Option, Some, find, if◌then◌else◌, is_some, length, map, nat_le, not, option_map, ℕ, ◌+◌, ◌≡◌}
use Rattle.std.specs.Option.{option_map_or}
use Rattle.cxl_message.specs.declared.identifiers.Bytes64.{Bytes64}
use Rattle.cxl_message.specs.declared.identifiers.Line.{Line}
use Rattle.cxl_message.specs.declared.states.CopyState.{CopyState}
use Rattle.cxl_message.specs.Codes.{copy_code}
use Rattle.cxl_message.specs.Opening.{zero_bytes}
use Rattle.coherence_model.specs.Copies.{Copy, no_copy}
use Rattle.host_record.specs.Tables.{lookup, place_or}
use Rattle.host_record.specs.Ways.{Way}
use Rattle.line_pool.specs.Pools.{IsInUse, Pool, line_of}
use Rattle.linked_order.specs.Orders.{Order, is_listed}
use Rattle.host_cache.specs.declared.held.Held.{Held}

-- a cache: its ways, oldest first, how many it may have, and how many lines there are
pub record Cache : Type 0 where
  pub ways : List Way
  pub room : ℕ
  pub lines : ℕ

-- a copy in a state with these bytes; a copy I has none
abbrev pub copy_with : CopyState → Bytes64 → Copy
copy_with state bytes = record { state = state; bytes = if nat_le 1 (copy_code state) then bytes else zero_bytes }

-- the line of a number
abbrev pub line_named : ℕ → Line
line_named n = record { 0 = n }

-- the first way whose line isn't busy
abbrev pub first_idle : List Bool → List Way → Option ℕ
first_idle busy ways = find (λ a. not (place_or false busy a)) (map (λ w. w.line) ways)

-- ---- within

-- the bytes in a slot
abbrev pub bytes_in : Pool → ℕ → Bytes64
bytes_in pool slot = option_map_or (λ bytes. record { 0 = bytes }) (line_of pool slot) zero_bytes

-- the copy that a way holds
abbrev pub copy_held : Pool → Option Held → Copy
copy_held pool None = no_copy
copy_held pool (Some held) = copy_with held.state (bytes_in pool held.slot)

-- the way of a line
abbrev pub way_of : List (Option Held) → Pool → ℕ → Way
way_of table pool a = record { line = a; copy = copy_held pool (lookup table a) }

-- the slot of a line's way
abbrev pub slot_at : List (Option Held) → ℕ → Option ℕ
slot_at table a = option_map (λ held. held.slot) (lookup table a)

-- what is seen of a table by line, a region and an order of lines
abbrev pub cache_of : List (Option Held) → Pool → Order → Cache
cache_of table pool order = record { ways = map (way_of table pool) order.listed; room = length order.listed + pool.spare; lines = order.places }

-- a line has a way exactly where it is in the order, and its bytes lie in a slot of its own
pub record IsKept (table : List (Option Held)) (pool : Pool) (order : Order) : Type 0 where
  pub sizes : length table ≡ order.places
  pub held : (a : ℕ) → is_some (lookup table a) ≡ is_listed a order.listed
  pub in_use : (a slot : ℕ) → slot_at table a ≡ Some slot → IsInUse pool slot
  pub apart : (a b slot : ℕ) → slot_at table a ≡ Some slot → slot_at table b ≡ Some slot → a ≡ b
