-- The lines of a block that have no answer yet, as marks: a first line, and a mark for each line from it on. All of it is an own rule.
use Rattle.std.specs.Prelude.{Bool, List, [], if◌then◌else◌, ℕ, ◌++◌, ◌+◌, ◌∷◌}
use Rattle.coherence_model.specs.Words.{one_if}

-- the lines that are marked, ascending
abbrev pub marked : ℕ → List Bool → List ℕ
marked a [] = []
marked a (b ∷ bs) = if b then a ∷ marked (a + 1) bs else marked (a + 1) bs

-- how many marks are set
abbrev pub mark_count : List Bool → ℕ
mark_count [] = 0
mark_count (b ∷ bs) = one_if b + mark_count bs

-- a list with a line at its end, where it is marked
abbrev pub with_marked : Bool → ℕ → List ℕ → List ℕ
with_marked b a xs = if b then xs ++ a ∷ [] else xs
