-- Lines of a filter that follow each other.
use Rattle.std.specs.Prelude.{List, [], if◌then◌else◌, true, ℕ, ◌+◌, ◌<◌, ◌∷◌, ◌≡◌, ◌≤◌}
use Rattle.cxl_message.specs.declared.states.Listing.{Listing}
use Rattle.cxl_message.specs.Lists.{is_in}
use Rattle.block_snoop.specs.Answering.{line_answered}
use Rattle.snoop_filter.specs.Changes.{rows_set}
use Rattle.snoop_filter.specs.Rows.{FilterRow, held_in}
use Rattle.snoop_filter.specs.Victims.{is_idle_in}

-- each of n lines from the first on has a row that isn't held (own rule)
abbrev pub AreIdle : List FilterRow → ℕ → ℕ → Type 0
AreIdle rows first n = (a : ℕ) → first ≤ a → a < first + n → is_idle_in rows a ≡ true

-- each of n lines from the first on is held (own rule)
abbrev pub AreHeld : List FilterRow → ℕ → ℕ → Type 0
AreHeld rows first n = (a : ℕ) → first ≤ a → a < first + n → held_in a rows ≡ true

-- the rows with host h unlisted for those of some lines that it has left, one after the other (own rule)
abbrev pub rows_unlisted : ℕ → List ℕ → List ℕ → List FilterRow → List FilterRow
rows_unlisted h [] left rows = rows
rows_unlisted h (a ∷ lines) left rows = rows_unlisted h lines (line_answered a left) (if is_in a left then rows_set (a ∷ []) h Listing.I rows else rows)
