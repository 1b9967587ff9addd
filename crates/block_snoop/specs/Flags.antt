-- The lines of a block by flags (own rule).
use Rattle.std.specs.Prelude.{Bool, List, [], false, map, true, ℕ, ◌+◌, ◌∷◌}
use Rattle.cxl_message.specs.declared.opcodes.Span.{Span}
use Rattle.cxl_message.specs.Lists.{is_in}

-- the lines whose flag is set, where the first flag is of the line k after the first of the block (own rule)
abbrev pub lines_left : ℕ → ℕ → List Bool → List ℕ
lines_left first k [] = []
lines_left first k (true ∷ flags) = (first + k) ∷ lines_left first (k + 1) flags
lines_left first k (false ∷ flags) = lines_left first (k + 1) flags

-- the flags of the first four lines of a block (own rule)
abbrev pub flags_of : ℕ → List ℕ → List Bool
flags_of first left = is_in (first + 0) left ∷ is_in (first + 1) left ∷ is_in (first + 2) left ∷ is_in (first + 3) left ∷ []

-- the flags of all lines of a block of some length (own rule)
abbrev pub all_flags : Span → List Bool
all_flags Span.One = true ∷ false ∷ false ∷ false ∷ []
all_flags Span.Two = true ∷ true ∷ false ∷ false ∷ []
all_flags Span.Four = true ∷ true ∷ true ∷ true ∷ []

-- 1 for a flag that is set (own rule)
abbrev pub one_set : Bool → ℕ
one_set true = 1
one_set false = 0
