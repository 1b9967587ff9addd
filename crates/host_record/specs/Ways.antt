-- The ways of a host as a list, oldest first, and what is done to them. All of it is an own rule.
use Rattle.std.specs.Prelude.{Bool, List, None, Option, Some, [], filter, find, if◌then◌else◌, map, not, ℕ, ◌++◌, ◌==◌, ◌∷◌}
use Rattle.std.specs.List.{list_any}
use Rattle.std.specs.Option.{option_map_or}
use Rattle.coherence_model.specs.Copies.{Copy, no_copy}

-- a way: its line and the line's copy, bytes included; a way whose copy is I waits for a fill, and its bytes are zero
pub record Way : Type 0 where
  pub line : ℕ
  pub copy : Copy

-- the copy of a line: none where it has no way
abbrev pub copy_in : List Way → ℕ → Copy
copy_in ways a = option_map_or (λ w. w.copy) (find (λ w. a == w.line) ways) no_copy

-- whether a line has a way
abbrev pub has_way : ℕ → List Way → Bool
has_way a ways = list_any (λ w. a == w.line) ways

-- the ways with another copy of line a
abbrev pub put_way : ℕ → Copy → List Way → List Way
put_way a c ways = map (λ w. if a == w.line then record { line = w.line; copy = c } else w) ways

-- the ways without line a
abbrev pub drop_way : ℕ → List Way → List Way
drop_way a ways = filter (λ w. not (a == w.line)) ways

-- the ways without a line, if there is one to drop
abbrev pub drop_way_of : Option ℕ → List Way → List Way
drop_way_of None ways = ways
drop_way_of (Some a) ways = drop_way a ways

-- the ways with line a brought in: last and without a copy, or in its place where it has a way
abbrev pub add_way : ℕ → List Way → List Way
add_way a ways = if has_way a ways then ways else ways ++ record { line = a; copy = no_copy } ∷ []

-- the ways after the copy of line a is given up: the way stays where it is still wanted
abbrev pub give_up : ℕ → Bool → List Way → List Way
give_up a wanted ways = if wanted then put_way a no_copy ways else drop_way a ways
