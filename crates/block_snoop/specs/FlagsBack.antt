-- The lines that are left give the flags back.
use Rattle.std.proofs.Common.{◌≡◌, ℕ, zero, suc, ◌+◌, ◌<◌, Bool, true, false, List, [], ◌∷◌, length, get_or, refl, ap, sym, ◌∙◌, arith}
use Rattle.std.specs.Prelude.{not, ◌==◌, ◌||◌}
use Rattle.std.proofs.lemmas.Bool.{eq-eqb, ne_eqb}
use Rattle.cxl_message.specs.Lists.{is_in}
use Rattle.snoop_filter.specs.declared.blocks.Block.{Block}
use Rattle.block_snoop.specs.declared.answers.AnswersLeft.TheInside.{Inside}
use Rattle.block_snoop.specs.Answering.{LeftRecord}
use Rattle.block_snoop.specs.Flags.{flags_of, lines_left}

-- what is seen of the parts (own rule)
abbrev pub seen_left : Inside → LeftRecord
seen_left a = record { block = a.block; left = lines_left a.block.first.0 0 a.left }

-- a line before those of the flags isn't left
pub none_before : (first j k : ℕ) (flags : List Bool) → j < k → is_in (first + j) (lines_left first k flags) ≡ false
none_before first j k [] low = refl
none_before first j k (true ∷ flags) low =
    ap (λ b. b || is_in (first + j) (lines_left first (k + 1) flags)) (ne_eqb (first + j) (first + k) (λ same. omega (arith, same, low))) ∙ none_before first j (k + 1) flags (omega arith)
none_before first j k (false ∷ flags) low = none_before first j (k + 1) flags (omega arith)

sum_is : (first n k : ℕ) → n ≡ first + (k + 0) → n ≡ first + k
sum_is first n k same = omega (arith, same)

-- a line is left where its flag is set
pub left_by_flag : (first n k low : ℕ) (flags : List Bool) → n ≡ first + (k + low) → is_in n (lines_left first k flags) ≡ get_or flags low false
left_by_flag first n k low [] same = refl
left_by_flag first n k zero (true ∷ flags) same = ap (λ b. b || is_in n (lines_left first (k + 1) flags)) (eq-eqb n (first + k) (omega arith))
left_by_flag first n k zero (false ∷ flags) same = ap (λ m. is_in m (lines_left first (k + 1) flags)) (sum_is first n k same) ∙ none_before first k (k + 1) flags (omega arith)
left_by_flag first n k (suc low) (true ∷ flags) same =
    ap (λ b. b || is_in n (lines_left first (k + 1) flags)) (ne_eqb n (first + k) (λ at. omega (arith, at, same))) ∙ left_by_flag first n (k + 1) low flags (omega (arith, same))
left_by_flag first n k (suc low) (false ∷ flags) same = left_by_flag first n (k + 1) low flags (omega (arith, same))

four_flags : (flags : List Bool) → length flags ≡ 4 → get_or flags 0 false ∷ get_or flags 1 false ∷ get_or flags 2 false ∷ get_or flags 3 false ∷ [] ≡ flags
four_flags [] four = absurd (omega (arith, four))
four_flags (a ∷ []) four = absurd (omega (arith, four))
four_flags (a ∷ b ∷ []) four = absurd (omega (arith, four))
four_flags (a ∷ b ∷ c ∷ []) four = absurd (omega (arith, four))
four_flags (a ∷ b ∷ c ∷ d ∷ []) four = refl
four_flags (a ∷ b ∷ c ∷ d ∷ e ∷ rest) four = absurd (omega (arith, four))

-- the flags of the lines that are left
pub flags_again : (first : ℕ) (flags : List Bool) → length flags ≡ 4 → flags_of first (lines_left first 0 flags) ≡ flags
flags_again first flags four =
    (λ i. left_by_flag first (first + 0) 0 0 flags (omega arith) i ∷ left_by_flag first (first + 1) 0 1 flags (omega arith) i
    ∷ left_by_flag first (first + 2) 0 2 flags (omega arith) i ∷ left_by_flag first (first + 3) 0 3 flags (omega arith) i ∷ [])
    ∙ four_flags flags four

abbrev inside_of : Block → List Bool → Inside
inside_of block flags = record { block = block; left = flags }

pub flags_back : (block : Block) (flags : List Bool) → length flags ≡ 4 → inside_of block (flags_of block.first.0 (lines_left block.first.0 0 flags)) ≡ inside_of block flags
flags_back block flags four = ap (inside_of block) (flags_again block.first.0 flags four)
