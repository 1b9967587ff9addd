-- How a list stands while each of its members is changed in turn, and where a task goes.
use Rattle.std.specs.Prelude.{List, [], nat_lt, not, ℕ, zero, suc, ◌∷◌}
use Rattle.std.specs.List.{position_or_len}
use Rattle.device_record.specs.Record.{TaskRecord}

-- the list whose first n members are changed (own rule)
abbrev pub front_changed : {X : Type 0} → (X → X) → ℕ → List X → List X
front_changed f zero xs = xs
front_changed f (suc n) [] = []
front_changed f (suc n) (x ∷ xs) = f x ∷ front_changed f n xs

-- the place of a task with a first line among tasks by ascending first line (own rule)
abbrev pub place_in_order : ℕ → List TaskRecord → ℕ
place_in_order a us = position_or_len (λ u. not (nat_lt u.first a)) us
