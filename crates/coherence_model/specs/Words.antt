-- Small words on tests, options and lists.
use Rattle.std.specs.Prelude.{Bool, List, None, Option, Some, [], false, not, true, ℕ, ◌++◌, ◌||◌, ◌∷◌}

-- the value where the condition holds
abbrev pub when : {A : Type 0} → Bool → A → Option A
when true x = Some x
when false x = None

-- 1 where it holds, else 0
abbrev pub one_if : Bool → ℕ
one_if true = 1
one_if false = 0

-- whether the one implies the other
abbrev pub implies : Bool → Bool → Bool
implies p q = not p || q

-- the list with one more at its end, if there is one more
abbrev pub with_last : {A : Type 0} → Option A → List A → List A
with_last None xs = xs
with_last (Some x) xs = xs ++ x ∷ []
