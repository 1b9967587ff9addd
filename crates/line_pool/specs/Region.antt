-- How a pool's lines and free slots belong together (own rule).
use Rattle.std.specs.Prelude.{◌≡◌, ℕ, zero, suc, ◌+◌, ◌≤◌, ◌==◌, Bool, true, false, List, [], ◌∷◌, length, sum_by, slice_index_or, if◌then◌else◌}

-- 1 for a slot that is not in use (own rule)
abbrev pub spare_of : Bool → ℕ
spare_of true = 0
spare_of false = 1

-- 1 for the number that is looked for (own rule)
abbrev pub times_of : ℕ → ℕ → ℕ
times_of slot n = if n == slot then 1 else 0

-- of the next n slots from the first on, whether each is in use, which is where it is not among the free ones (own rule)
abbrev pub marks_from : List ℕ → ℕ → ℕ → List Bool
marks_from free first zero = []
marks_from free first (suc n) = (sum_by (times_of first) free == 0) ∷ marks_from free (first + 1) n

-- of each of n slots, whether it is in use (own rule)
abbrev pub marks : List ℕ → ℕ → List Bool
marks free n = marks_from free 0 n

-- each slot has a line and a mark that says whether it is in use, and the free slots are exactly those not in use, each once; a slot that comes back finds room (own rule)
pub record IsSound (lines : List (List ℕ)) (used : List Bool) (free : List ℕ) (capacity : ℕ) : Type 0 where
  pub sizes : length used ≡ length lines
  pub most : length used ≤ 131072
  pub room : length used ≤ capacity
  pub counted : length free ≡ sum_by spare_of used
  pub once : (slot : ℕ) → sum_by (times_of slot) free ≡ spare_of (slice_index_or used slot true)
