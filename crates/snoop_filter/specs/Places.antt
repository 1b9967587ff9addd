-- How a filter keeps its rows: in numbered places that are joined in an order, with a table from lines to places.
use Rattle.std.specs.Prelude.{List, Option, Some, false, if◌then◌else◌, length, map, nat_lt, replicate, slice_get, sum_by, take, true, unwrap_or, ℕ, ◌+◌, ◌==◌, ◌≡◌}
use Rattle.cxl_message.specs.declared.states.Listing.{Listing}
use Rattle.cxl_message.specs.Lists.{is_in}
use Rattle.snoop_filter.specs.declared.places.Row.{Row}
use Rattle.snoop_filter.specs.Rows.{FilterRow, stands}

-- a row, with the listings of the first hosts (own rule)
abbrev pub row_seen : ℕ → Row → FilterRow
row_seen hosts r = record { line = r.line; listings = take hosts r.listed; held = r.held }

-- a row without a line (own rule)
abbrev pub blank_row : Row
blank_row = record { line = 0; listed = replicate 16 Listing.I; held = false }

-- the row in a place (own rule)
abbrev pub row_in : List Row → ℕ → Row
row_in rows p = unwrap_or (slice_get rows p) blank_row

-- the row in a place, as it is seen (own rule)
abbrev pub shown : ℕ → List Row → ℕ → FilterRow
shown hosts rows p = row_seen hosts (row_in rows p)

-- the rows of places in an order (own rule)
abbrev pub rows_shown : ℕ → List Row → List ℕ → List FilterRow
rows_shown hosts rows order = map (shown hosts rows) order

-- 1 for the place that is looked for (own rule)
abbrev pub times_of : ℕ → ℕ → ℕ
times_of p q = if q == p then 1 else 0

-- how often a place stands in a list (own rule)
abbrev pub times : ℕ → List ℕ → ℕ
times p places = sum_by (times_of p) places

-- how often a place below a number stands among those of a filter: once, where there is such a place (own rule)
abbrev pub once_below : ℕ → ℕ → ℕ
once_below p places = if nat_lt p places then 1 else 0

-- how the parts of a filter belong together: the table leads to the places in the order and their rows lead back, each row in the order stands, and each place is either in the order or spare (own rule)
pub record IsSound (hosts : ℕ) (table : List (Option ℕ)) (rows : List Row) (order spare : List ℕ) : Type 0 where
  pub placed : (a p : ℕ) → slice_get table a ≡ Some (Some p) → (is_in p order ≡ true) × ((row_in rows p).line ≡ a)
  pub filed : (p : ℕ) → is_in p order ≡ true → slice_get table (row_in rows p).line ≡ Some (Some p)
  pub standing : (p : ℕ) → is_in p order ≡ true → stands (shown hosts rows p) ≡ true
  pub once : (p : ℕ) → times p order + times p spare ≡ once_below p (length rows)
  pub room : length order + length spare ≡ length rows

-- a row of line a that is held and lists no host (own rule)
abbrev pub held_row : ℕ → Row
held_row a = record { line = a; listed = replicate 16 Listing.I; held = true }
