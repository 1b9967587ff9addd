-- What the calls of a filter do to its rows. A row that doesn't stand any more is gone; the others keep their order.
use Rattle.std.specs.Prelude.{Bool, List, [], false, filter, if◌then◌else◌, map, replicate, slice_set, true, ℕ, ◌++◌, ◌∷◌}
use Rattle.cxl_message.specs.declared.states.Listing.{Listing}
use Rattle.cxl_message.specs.Lists.{is_in}
use Rattle.snoop_filter.specs.Rows.{FilterRow, has_row, stands}

-- the rows that stand after a change of each (own rule)
abbrev pub rows_changed : (FilterRow → FilterRow) → List FilterRow → List FilterRow
rows_changed change rows = filter stands (map change rows)

-- a row with host h listed so, if it is of one of these lines (own rule)
abbrev pub row_set : List ℕ → ℕ → Listing → FilterRow → FilterRow
row_set lines h l r = if is_in r.line lines then record r { listings = slice_set r.listings h l } else r

-- a row that is held or not, if it is of one of these lines (own rule)
abbrev pub row_marked : List ℕ → Bool → FilterRow → FilterRow
row_marked lines held r = if is_in r.line lines then record r { held = held } else r

-- a new row for line a: no host is listed, and it is held (own rule)
abbrev pub row_held : ℕ → ℕ → FilterRow
row_held hosts a = record { line = a; listings = replicate hosts Listing.I; held = true }

-- the rows with host h listed so for these lines (own rule)
abbrev pub rows_set : List ℕ → ℕ → Listing → List FilterRow → List FilterRow
rows_set lines h l rows = rows_changed (row_set lines h l) rows

-- the rows with line a held: its row in its place, or a new one that goes last (own rule)
abbrev pub rows_hold : ℕ → ℕ → List FilterRow → List FilterRow
rows_hold hosts a rows = if has_row a rows then map (row_marked (a ∷ []) true) rows else rows ++ row_held hosts a ∷ []

-- the rows with these lines held, each of which has one (own rule)
abbrev pub rows_hold_all : List ℕ → List FilterRow → List FilterRow
rows_hold_all lines rows = map (row_marked lines true) rows

-- the rows with these lines let go (own rule)
abbrev pub rows_let_go : List ℕ → List FilterRow → List FilterRow
rows_let_go lines rows = rows_changed (row_marked lines false) rows
