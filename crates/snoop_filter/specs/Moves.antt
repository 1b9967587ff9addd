-- What the moves of rows leave of the places (own rule).
use Rattle.std.specs.Prelude.{List, None, Some, false, slice_set, true, vec_capacity, [], ℕ, ◌++◌, ◌≡◌, ◌≤◌, ◌∷◌}
use Rattle.cxl_message.specs.Lists.{without}
use Rattle.snoop_filter.specs.declared.places.Places.{Places}
use Rattle.snoop_filter.specs.declared.places.Row.{Row}
use Rattle.snoop_filter.specs.Places.{held_row, row_seen}
use Rattle.snoop_filter.specs.Rows.{stands}

-- a spare place has a new row of line a, which is the newest (own rule)
pub record IsAdded (old new : Places) (a : ℕ) : Type 0 where
  pub place : ℕ
  pub rest : List ℕ
  pub spare : old.spare.items ≡ rest ++ place ∷ []
  pub left : new.spare.items ≡ rest
  pub table : new.table.items ≡ slice_set old.table.items a (Some place)
  pub rows : new.rows.items ≡ slice_set old.rows.items place (held_row a)
  pub order : new.order ≡ record { places = old.order.places; listed = old.order.listed ++ place ∷ [] }
  pub room : vec_capacity old.spare ≤ vec_capacity new.spare

-- a row that stands is put for the one in place p (own rule)
pub record IsPut (hosts : ℕ) (old new : Places) (p : ℕ) (r : Row) : Type 0 where
  pub standing : stands (row_seen hosts r) ≡ true
  pub rows : new.rows.items ≡ slice_set old.rows.items p r
  pub table : new.table ≡ old.table
  pub order : new.order ≡ old.order
  pub spare : new.spare ≡ old.spare

-- a row doesn't stand, and place p is spare (own rule)
pub record IsRemoved (hosts : ℕ) (old new : Places) (p : ℕ) (r : Row) : Type 0 where
  pub fallen : stands (row_seen hosts r) ≡ false
  pub table : new.table.items ≡ slice_set old.table.items r.line None
  pub rows : new.rows ≡ old.rows
  pub order : new.order ≡ record { places = old.order.places; listed = without p old.order.listed }
  pub spare : new.spare.items ≡ old.spare.items ++ p ∷ []
  pub room : vec_capacity old.spare ≤ vec_capacity new.spare
