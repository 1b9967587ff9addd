-- Lists of what a table has at some of its places, by ascending place.
use Rattle.std.specs.Prelude.{List, Option, [], flat_map, if◌then◌else◌, nat_lt, option_to_list, ℕ, ◌∷◌}

-- what a table has at these places (own rule)
abbrev pub sparse : {X : Type 0} → (ℕ → Option X) → List ℕ → List X
sparse f places = flat_map (λ a. option_to_list (f a)) places

-- the list with one more, before the first whose place isn't lower (own rule)
abbrev pub put_in_order : {X : Type 0} → (X → ℕ) → X → List X → List X
put_in_order key x [] = x ∷ []
put_in_order key x (y ∷ ys) = if nat_lt (key y) (key x) then y ∷ put_in_order key x ys else x ∷ y ∷ ys
