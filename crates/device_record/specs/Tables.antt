-- Lists that are read and changed by place.
use Rattle.std.specs.Prelude.{List, None, Option, Some, option_map, slice_get, slice_set, ℕ}

-- a table with one place changed, if it has it (own rule)
abbrev pub place_set : {X : Type 0} → ℕ → Option X → List X → List X
place_set k None xs = xs
place_set k (Some x) xs = slice_set xs k x

-- a table with a change of what it has at one place, if it has it (own rule)
abbrev pub changed_at : {X : Type 0} → ℕ → (X → X) → List X → List X
changed_at k change xs = place_set k (option_map change (slice_get xs k)) xs
