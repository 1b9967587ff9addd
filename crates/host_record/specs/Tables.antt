-- Tables by number: reading a place and setting one. All of it is an own rule.
use Rattle.std.specs.Prelude.{List, None, Option, Some, slice_get, slice_set, unwrap_or, ℕ, [], ◌∷◌}
use Rattle.std.specs.Option.{option_flatten}

-- a place of a table of options
abbrev pub lookup : {X : Type 0} → List (Option X) → ℕ → Option X
lookup xs k = option_flatten (slice_get xs k)

-- a place of a table, or what stands for one that isn't there
abbrev pub place_or : {X : Type 0} → X → List X → ℕ → X
place_or x xs k = unwrap_or (slice_get xs k) x

-- a table with a place set, if there is one to set
abbrev pub set_at : {X : Type 0} → Option ℕ → X → List X → List X
set_at None x xs = xs
set_at (Some k) x xs = slice_set xs k x

-- a table with the same set at some places
abbrev pub set_all : {X : Type 0} → List ℕ → X → List X → List X
set_all [] x xs = xs
set_all (k ∷ ks) x xs = set_all ks x (slice_set xs k x)
