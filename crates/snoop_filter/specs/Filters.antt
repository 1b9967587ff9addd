-- What is seen of a filter.
use Rattle.std.specs.Prelude.{List, [], length, ℕ, ◌-◌}
use Rattle.snoop_filter.specs.Rows.{FilterRow}

-- the rows, oldest first, the number of reservations, and how many entries, hosts and lines there are (own rule)
pub record FilterRecord : Type 0 where
  pub rows : List FilterRow
  pub reserved : ℕ
  pub entries : ℕ
  pub hosts : ℕ
  pub lines : ℕ

-- the filter at first: no rows, and no reservation (own rule)
abbrev pub opened_filter : ℕ → ℕ → ℕ → FilterRecord
opened_filter entries hosts lines = record { rows = []; reserved = 0; entries = entries; hosts = hosts; lines = lines }

-- how many entries are free: those less the rows and the reservations (own rule)
abbrev pub free_in : FilterRecord → ℕ
free_in f = (f.entries - length f.rows) - f.reserved
