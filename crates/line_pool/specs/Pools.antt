-- What is seen of a pool (own rule).
use Rattle.std.specs.Prelude.{ℕ, Bool, true, false, List, [], ◌∷◌, None, Some, IsSome, slice_index_or}
use Rattle.std.specs.declared.option.Option.{Option}

-- a pool: of each slot its 64 bytes, or none where it is not in use, and how many slots are spare (own rule)
pub record Pool : Type 0 where
  pub slots : List (Option (List ℕ))
  pub spare : ℕ

-- the bytes of a slot, or none where the pool has no such slot in use (own rule)
abbrev pub line_of : Pool → ℕ → Option (List ℕ)
line_of pool slot = slice_index_or pool.slots slot None

-- the slot is in use in the pool (own rule)
abbrev pub IsInUse : Pool → ℕ → Type 0
IsInUse pool slot = IsSome (line_of pool slot)

-- a line where it is in use (own rule)
abbrev pub line_in_use : Bool → List ℕ → Option (List ℕ)
line_in_use true line = Some line
line_in_use false line = None

-- of each slot its line where it is in use (own rule)
abbrev pub lines_in_use : List Bool → List (List ℕ) → List (Option (List ℕ))
lines_in_use [] lines = []
lines_in_use (u ∷ used) [] = []
lines_in_use (u ∷ used) (line ∷ lines) = line_in_use u line ∷ lines_in_use used lines
