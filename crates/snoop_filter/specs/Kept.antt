-- What is seen of the parts of a filter, and what is true of them (own rule).
use Rattle.std.specs.Prelude.{length, ◌+◌, ◌<◌, ◌^◌, vec_capacity, vec_len, ◌≡◌, ◌≤◌}
use Rattle.snoop_filter.specs.declared.filters.Filter.TheInside.{Inside}
use Rattle.snoop_filter.specs.Filters.{FilterRecord}
use Rattle.snoop_filter.specs.Places.{IsSound, rows_shown}

-- the rows of the places in their order, and the numbers (own rule)
abbrev pub seen : Inside → FilterRecord
seen f = record { rows = rows_shown f.hosts f.places.rows.items f.places.order.listed; reserved = f.reserved; entries = f.entries; hosts = f.hosts; lines = f.lines }

-- the parts belong together, there are as many as the numbers say, each place that becomes spare finds room, and rows and reservations are no more than the entries (own rule)
pub record IsKept (f : Inside) : Type 0 where
  pub sound : IsSound f.hosts f.places.table.items f.places.rows.items f.places.order.listed f.places.spare.items
  pub lines : vec_len f.places.table ≡ f.lines
  pub entries : vec_len f.places.rows ≡ f.entries
  pub order : f.places.order.places ≡ f.entries
  pub room : vec_len f.places.rows ≤ vec_capacity f.places.spare
  pub free : length f.places.order.listed + f.reserved ≤ f.entries
  pub hosts : f.hosts ≤ 16
  pub few : f.lines < 2 ^ 32
