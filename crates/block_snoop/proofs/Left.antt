-- What an answer leaves of the lines of a block, by their flags.
use Rattle.std.proofs.Common.{◌≡◌, ℕ, zero, suc, ◌+◌, ◌<◌, ◌≤◌, Bool, true, false, List, [], ◌∷◌, cond, length, get_or, refl, ap, sym, ◌∙◌, arith}
use Rattle.std.specs.Prelude.{not, slice_set, ◌==◌, ◌||◌}
use Rattle.std.proofs.lemmas.Bool.{eq-eqb, eqb-false, false≢true, ne_eqb, or_parts}
use Rattle.cxl_message.specs.Lists.{is_in, without}
use Rattle.cxl_message.specs.declared.opcodes.Span.{Span}
use Rattle.cxl_message.specs.Codes.{span_len}
use Rattle.cxl_message.specs.Spans.{lines_of}
use Rattle.snoop_filter.specs.declared.blocks.Block.{Block}
use Rattle.block_snoop.specs.declared.answers.AnswersLeft.TheInside.{Inside}
use Rattle.block_snoop.specs.Answering.{LeftRecord, are_all_left, line_answered, none_answered, some_left}
use Rattle.block_snoop.specs.Flags.{all_flags, lines_left, one_set}
use Rattle.block_snoop.specs.FlagsBack.{left_by_flag, none_before, seen_left}

-- a list is the same without what it hasn't
pub without_none : (a : ℕ) (xs : List ℕ) → is_in a xs ≡ false → without a xs ≡ xs
without_none a [] none = refl
without_none a (x ∷ xs) none =
    let parts = or_parts (a == x) (is_in a xs) none in
    ap (λ b. cond (not b) (x ∷ without a xs) (without a xs)) parts.0 ∙ ap (λ l. x ∷ l) (without_none a xs parts.1)

-- the lines without one are those without its flag
pub flag_cleared : (first n k low : ℕ) (flags : List Bool) → n ≡ first + (k + low) → without n (lines_left first k flags) ≡ lines_left first k (slice_set flags low false)
flag_cleared first n k low [] same = refl
flag_cleared first n k zero (true ∷ flags) same =
    let at : n ≡ first + k = omega (arith, same) in
    ap (λ b. cond (not b) ((first + k) ∷ without n (lines_left first (k + 1) flags)) (without n (lines_left first (k + 1) flags))) (eq-eqb n (first + k) at)
    ∙ without_none n (lines_left first (k + 1) flags) (ap (λ m. is_in m (lines_left first (k + 1) flags)) at ∙ none_before first k (k + 1) flags (omega arith))
flag_cleared first n k zero (false ∷ flags) same =
    let at : n ≡ first + k = omega (arith, same) in
    without_none n (lines_left first (k + 1) flags) (ap (λ m. is_in m (lines_left first (k + 1) flags)) at ∙ none_before first k (k + 1) flags (omega arith))
flag_cleared first n k (suc low) (true ∷ flags) same =
    ap (λ b. cond (not b) ((first + k) ∷ without n (lines_left first (k + 1) flags)) (without n (lines_left first (k + 1) flags))) (ne_eqb n (first + k) (λ at. omega (arith, at, same)))
    ∙ ap (λ l. (first + k) ∷ l) (flag_cleared first n (k + 1) low flags (omega (arith, same)))
flag_cleared first n k (suc low) (false ∷ flags) same = flag_cleared first n (k + 1) low flags (omega (arith, same))

-- a line whose flag is set is left
pub left_at : (first low : ℕ) (flags : List Bool) → is_in (first + low) (lines_left first 0 flags) ≡ get_or flags low false
left_at first low flags = left_by_flag first (first + low) 0 low flags (omega arith)

past_end : (flags : List Bool) (low : ℕ) → length flags ≤ low → get_or flags low false ≡ false
past_end [] low far = refl
past_end (b ∷ flags) zero far = absurd (omega (arith, far))
past_end (b ∷ flags) (suc low) far = past_end flags low (omega (arith, far))

-- a line past the flags isn't left
pub not_left : (first low : ℕ) (flags : List Bool) → length flags ≤ low → is_in (first + low) (lines_left first 0 flags) ≡ false
not_left first low flags far = left_at first low flags ∙ past_end flags low far

pub cleared : (first low : ℕ) (flags : List Bool) → without (first + low) (lines_left first 0 flags) ≡ lines_left first 0 (slice_set flags low false)
cleared first low flags = flag_cleared first (first + low) 0 low flags (omega arith)

counted_by : (first : ℕ) (a b c d : Bool) → length (lines_left first 0 (a ∷ b ∷ c ∷ d ∷ [])) ≡ one_set a + one_set b + one_set c + one_set d
counted_by first true true true true = refl
counted_by first true true true false = refl
counted_by first true true false true = refl
counted_by first true true false false = refl
counted_by first true false true true = refl
counted_by first true false true false = refl
counted_by first true false false true = refl
counted_by first true false false false = refl
counted_by first false true true true = refl
counted_by first false true true false = refl
counted_by first false true false true = refl
counted_by first false true false false = refl
counted_by first false false true true = refl
counted_by first false false true false = refl
counted_by first false false false true = refl
counted_by first false false false false = refl

-- how many lines are left
pub left_counted : (first : ℕ) (flags : List Bool) → length flags ≡ 4 → length (lines_left first 0 flags) ≡ one_set (get_or flags 0 false) + one_set (get_or flags 1 false) + one_set (get_or flags 2 false) + one_set (get_or flags 3 false)
left_counted first [] four = absurd (omega (arith, four))
left_counted first (a ∷ []) four = absurd (omega (arith, four))
left_counted first (a ∷ b ∷ []) four = absurd (omega (arith, four))
left_counted first (a ∷ b ∷ c ∷ []) four = absurd (omega (arith, four))
left_counted first (a ∷ b ∷ c ∷ d ∷ []) four = counted_by first a b c d
left_counted first (a ∷ b ∷ c ∷ d ∷ e ∷ rest) four = absurd (omega (arith, four))

done_by : (n : ℕ) → (suc n == 0) ≡ false
done_by n = ne_eqb (suc n) 0 (λ same. omega (arith, same))

-- whether no line is left, by how many are
pub done_is : (left : List ℕ) → (length left == 0) ≡ not (some_left left)
done_is [] = refl
done_is (a ∷ left) = done_by (length left)

-- ---- what is seen

pub left_is : (a : Inside) (v : LeftRecord) → seen_left a ≡ v → (low : ℕ) → is_in (v.block.first.0 + low) v.left ≡ get_or a.left low false
left_is a v is low = ap (λ (w : LeftRecord). is_in (w.block.first.0 + low) w.left) (sym is) ∙ left_at a.block.first.0 low a.left

pub not_left_is : (a : Inside) (v : LeftRecord) → seen_left a ≡ v → (low : ℕ) → length a.left ≤ low → is_in (v.block.first.0 + low) v.left ≡ false
not_left_is a v is low far = ap (λ (w : LeftRecord). is_in (w.block.first.0 + low) w.left) (sym is) ∙ not_left a.block.first.0 low a.left far

-- what is seen after the answer for a line
pub answered_is : (a : Inside) (v : LeftRecord) → seen_left a ≡ v → (low : ℕ) → seen_left (record a { left = slice_set a.left low false }) ≡ record v { left = line_answered (v.block.first.0 + low) v.left }
answered_is a v is low =
    ap (λ (l : List ℕ). record { block = a.block; left = l }) (sym (cleared a.block.first.0 low a.left))
    ∙ ap (λ (w : LeftRecord). record w { left = line_answered (w.block.first.0 + low) w.left }) is

-- an answer for a line that isn't left changes nothing
pub stays_is : (v : LeftRecord) (n : ℕ) → is_in n v.left ≡ false → v ≡ record v { left = line_answered n v.left }
stays_is v n none = ap (λ (l : List ℕ). record v { left = l }) (sym (without_none n v.left none))

-- what is seen after the answer for all lines
pub all_answered_is : (a : Inside) (v : LeftRecord) → seen_left a ≡ v → are_all_left v.block.span v.left ≡ true
    → seen_left (record a { left = false ∷ false ∷ false ∷ false ∷ [] }) ≡ record v { left = cond (are_all_left v.block.span v.left) [] v.left }
all_answered_is a v is all =
    ap (λ (w : LeftRecord). record w { left = [] }) is ∙ sym (ap (λ b. record v { left = cond b [] v.left }) all)

all_by : (first : ℕ) (span : Span) → lines_left first 0 (all_flags span) ≡ lines_of first span
all_by first Span.One = refl
all_by first Span.Two = refl
all_by first Span.Four = refl

-- what is seen of a block that was just asked about
pub new_is : (b : Block) (flags : List Bool) → flags ≡ all_flags b.span → seen_left (record { block = b; left = flags }) ≡ none_answered b
new_is b flags same = ap (λ (l : List Bool). record { block = b; left = lines_left b.first.0 0 l }) same ∙ ap (λ (l : List ℕ). record { block = b; left = l }) (all_by b.first.0 b.span)

-- the block is that which is seen
pub same_span : (a : Inside) (v : LeftRecord) → seen_left a ≡ v → span_len a.block.span ≡ span_len v.block.span
same_span a v is = ap (λ (w : LeftRecord). span_len w.block.span) is
