-- Marked lines, by a list of marks.
use Rattle.std.proofs.Common.{Bool, List, [], ap, arith, cond, false, inl, inr, length, refl, subst, suc, sym, true, zero, ℕ, ◌+◌, ◌-◌, ◌<◌, ◌∙◌, ◌∷◌, ◌≡◌, ◌≤◌}
use Rattle.std.proofs.lemmas.Bool.{cases_lt, eq-eqb, false≢true, ne_eqb}
use Rattle.std.proofs.Common.{slice_set}
use Rattle.std.specs.List.{list_all}
use Rattle.std.specs.Prelude.{nat_le, nat_lt, not, slice_index_or, ◌&&◌, ◌==◌, ◌||◌}
use Rattle.cxl_message.specs.Lists.{is_in, without}
use Rattle.cxl_message.specs.declared.opcodes.Span.{Span}
use Rattle.cxl_message.specs.Spans.{lines_of}
use Rattle.coherence_model.specs.Words.{one_if}
use Rattle.held_snoops.specs.Marks.{mark_count, marked, with_marked}

keep_if : (b : Bool) (a : ℕ) (l : ℕ) (rest : List ℕ) → (l == a) ≡ false → without l (cond b (a ∷ rest) rest) ≡ cond b (a ∷ without l rest) (without l rest)
keep_if true a l rest other = ap (λ x. cond (not x) (a ∷ without l rest) (without l rest)) other
keep_if false a l rest other = refl

pub marked_low : (a l : ℕ) (bs : List Bool) → l < a → without l (marked a bs) ≡ marked a bs
marked_low a l [] low = refl
marked_low a l (b ∷ bs) low =
    keep_if b a l (marked (a + 1) bs) (ne_eqb l a (λ same. omega arith)) ∙ ap (λ xs. cond b (a ∷ xs) xs) (marked_low (a + 1) l bs (omega arith))

pub marked_high : (a l : ℕ) (bs : List Bool) → a + length bs ≤ l → without l (marked a bs) ≡ marked a bs
marked_high a l [] high = refl
marked_high a l (b ∷ bs) high =
    keep_if b a l (marked (a + 1) bs) (ne_eqb l a (λ same. omega arith)) ∙ ap (λ xs. cond b (a ∷ xs) xs) (marked_high (a + 1) l bs (omega arith))

gone_if : (b : Bool) (a : ℕ) (rest : List ℕ) → without a (cond b (a ∷ rest) rest) ≡ without a rest
gone_if true a rest = ap (λ x. cond (not x) (a ∷ without a rest) (without a rest)) (eq-eqb a a refl)
gone_if false a rest = refl

set_at : (a k : ℕ) (bs : List Bool) → k < length bs → marked a (slice_set bs k false) ≡ without (a + k) (marked a bs)
set_at a k [] low = absurd (omega arith)
set_at a zero (b ∷ bs) low =
    let e : a ≡ a + 0 = omega arith in
    sym (marked_low (a + 1) a bs (omega arith)) ∙ sym (gone_if b a (marked (a + 1) bs)) ∙ ap (λ x. without x (marked a (b ∷ bs))) e
set_at a (suc k) (b ∷ bs) low =
    let e : (a + 1) + k ≡ a + suc k = omega arith in
    ap (λ xs. cond b (a ∷ xs) xs) (set_at (a + 1) k bs (omega arith) ∙ ap (λ x. without x (marked (a + 1) bs)) e)
    ∙ sym (keep_if b a (a + suc k) (marked (a + 1) bs) (ne_eqb (a + suc k) a (λ same. omega arith)))

pub marked_set : (a l : ℕ) (bs : List Bool) → a ≤ l → l - a < length bs → marked a (slice_set bs (l - a) false) ≡ without l (marked a bs)
marked_set a l bs above low = let e : a + (l - a) ≡ l = omega arith in set_at a (l - a) bs low ∙ ap (λ x. without x (marked a bs)) e

pub in_low : (a l : ℕ) (bs : List Bool) → l < a → is_in l (marked a bs) ≡ false
in_low a l [] low = refl
in_low a l (b ∷ bs) low = step b a l (marked (a + 1) bs) (ne_eqb l a (λ same. omega arith)) (in_low (a + 1) l bs (omega arith))
  where
    step : (b : Bool) (a l : ℕ) (rest : List ℕ) → (l == a) ≡ false → is_in l rest ≡ false → is_in l (cond b (a ∷ rest) rest) ≡ false
    step true a l rest other none = ap (λ x. x || is_in l rest) other ∙ none
    step false a l rest other none = none

in_at : (a k : ℕ) (bs : List Bool) (d : Bool) → k < length bs → is_in (a + k) (marked a bs) ≡ slice_index_or bs k d
in_at a k [] d low = absurd (omega arith)
in_at a zero (b ∷ bs) d low = let e : a + 0 ≡ a = omega arith in ap (λ x. is_in x (marked a (b ∷ bs))) e ∙ by b
  where
    by : (b : Bool) → is_in a (cond b (a ∷ marked (a + 1) bs) (marked (a + 1) bs)) ≡ b
    by true = ap (λ x. x || is_in a (marked (a + 1) bs)) (eq-eqb a a refl)
    by false = in_low (a + 1) a bs (omega arith)
in_at a (suc k) (b ∷ bs) d low =
    let e : a + suc k ≡ (a + 1) + k = omega arith in
    step b a (a + suc k) (marked (a + 1) bs) (ne_eqb (a + suc k) a (λ same. omega arith)) ∙ ap (λ x. is_in x (marked (a + 1) bs)) e ∙ in_at (a + 1) k bs d (omega arith)
  where
    step : (b : Bool) (a l : ℕ) (rest : List ℕ) → (l == a) ≡ false → is_in l (cond b (a ∷ rest) rest) ≡ is_in l rest
    step true a l rest other = ap (λ x. x || is_in l rest) other
    step false a l rest other = refl

pub in_high : (a l : ℕ) (bs : List Bool) → a + length bs ≤ l → is_in l (marked a bs) ≡ false
in_high a l [] high = refl
in_high a l (b ∷ bs) high = step b a l (marked (a + 1) bs) (ne_eqb l a (λ same. omega arith)) (in_high (a + 1) l bs (omega arith))
  where
    step : (b : Bool) (a l : ℕ) (rest : List ℕ) → (l == a) ≡ false → is_in l rest ≡ false → is_in l (cond b (a ∷ rest) rest) ≡ false
    step true a l rest other none = ap (λ x. x || is_in l rest) other ∙ none
    step false a l rest other none = none

pub marked_in : (a l : ℕ) (bs : List Bool) (d : Bool) → a ≤ l → l - a < length bs → is_in l (marked a bs) ≡ slice_index_or bs (l - a) d
marked_in a l bs d above low = let e : l ≡ a + (l - a) = omega arith in ap (λ x. is_in x (marked a bs)) e ∙ in_at a (l - a) bs d low

-- a whole span is marked

pub one_marked : (a : ℕ) → marked a (true ∷ false ∷ false ∷ false ∷ []) ≡ lines_of a Span.One
one_marked a = let zero_more : a ≡ a + 0 = omega arith in ap (λ n. n ∷ []) zero_more

pub two_marked : (a : ℕ) → marked a (true ∷ true ∷ false ∷ false ∷ []) ≡ lines_of a Span.Two
two_marked a = let zero_more : a ≡ a + 0 = omega arith in ap (λ n. n ∷ (a + 1) ∷ []) zero_more

pub four_marked : (a : ℕ) → marked a (true ∷ true ∷ true ∷ true ∷ []) ≡ lines_of a Span.Four
four_marked a =
    let zero_more : a ≡ a + 0 = omega arith in
    let two_more : (a + 1) + 1 ≡ a + 2 = omega arith in
    let three_more : ((a + 1) + 1) + 1 ≡ a + 3 = omega arith in
    λ i. zero_more i ∷ (a + 1) ∷ two_more i ∷ three_more i ∷ []

count_step : (b : Bool) (a : ℕ) (rest : List ℕ) (n : ℕ) → length rest ≡ n → length (cond b (a ∷ rest) rest) ≡ one_if b + n
count_step true a rest n same = let more : suc n ≡ 1 + n = omega arith in ap suc same ∙ more
count_step false a rest n same = let none : n ≡ 0 + n = omega arith in same ∙ none

-- how many lines are marked
pub marked_count : (a : ℕ) (bs : List Bool) → length (marked a bs) ≡ mark_count bs
marked_count a [] = refl
marked_count a (b ∷ bs) = count_step b a (marked (a + 1) bs) (mark_count bs) (marked_count (a + 1) bs)

-- a marked line is one of those that the marks are for
pub in_range : (a l : ℕ) (bs : List Bool) → is_in l (marked a bs) ≡ true → (a ≤ l) × (l < a + length bs)
in_range a l bs is = elim (cases_lt l a) [
  | inl low ↦ absurd (false≢true (sym (in_low a l bs low) ∙ is))
  | inr from ↦ (
    from,
    elim (cases_lt l (a + length bs)) [
      | inl inside ↦ inside
      | inr high ↦ absurd (false≢true (sym (in_high a l bs high) ∙ is))
    ],
  )
]

-- all lines of a span pass a test

and_true : (b : Bool) → (b && true) ≡ b
and_true true = refl
and_true false = refl

pub all_of_one : (p : ℕ → Bool) (a : ℕ) → list_all p (lines_of a Span.One) ≡ p a
all_of_one p a = let zero_more : a + 0 ≡ a = omega arith in ap (λ n. p n && true) zero_more ∙ and_true (p a)

pub all_of_two : (p : ℕ → Bool) (a : ℕ) → list_all p (lines_of a Span.Two) ≡ (p a && p (a + 1))
all_of_two p a = let zero_more : a + 0 ≡ a = omega arith in ap (λ n. p n && (p (a + 1) && true)) zero_more ∙ ap (λ b. p a && b) (and_true (p (a + 1)))

four : (k l m n : Bool) → (k && (l && (m && (n && true)))) ≡ ((k && l) && (m && n))
four true true true true = refl
four true true true false = refl
four true true false n = refl
four true false m n = refl
four false l m n = refl

pub all_of_four : (p : ℕ → Bool) (a : ℕ) → list_all p (lines_of a Span.Four) ≡ ((p a && p (a + 1)) && (p (a + 2) && p (a + 2 + 1)))
all_of_four p a =
    let zero_more : a + 0 ≡ a = omega arith in
    let three_more : a + 3 ≡ a + 2 + 1 = omega arith in
    ap (λ n. p n && (p (a + 1) && (p (a + 2) && (p (a + 3) && true)))) zero_more
    ∙ four (p a) (p (a + 1)) (p (a + 2)) (p (a + 3)) ∙ ap (λ n. (p a && p (a + 1)) && (p (a + 2) && p n)) three_more

-- the marked lines, put one after another
pub pushed_marks : (a : ℕ) (b c d e : Bool) → with_marked e (a + 3) (with_marked d (a + 2) (with_marked c (a + 1) (with_marked b a []))) ≡ marked a (b ∷ c ∷ d ∷ e ∷ [])
pushed_marks a b c d e =
    let two_more : a + 2 ≡ (a + 1) + 1 = omega arith in
    let three_more : a + 3 ≡ ((a + 1) + 1) + 1 = omega arith in
    ap (λ n. with_marked e (a + 3) (with_marked d n (with_marked c (a + 1) (with_marked b a [])))) two_more
    ∙ ap (λ n. with_marked e n (with_marked d ((a + 1) + 1) (with_marked c (a + 1) (with_marked b a [])))) three_more
    ∙ by a (a + 1) ((a + 1) + 1) (((a + 1) + 1) + 1) b c d e
  where
    by : (k l m n : ℕ) (b c d e : Bool) → with_marked e n (with_marked d m (with_marked c l (with_marked b k []))) ≡ cond b (k ∷ cond c (l ∷ cond d (m ∷ cond e (n ∷ []) []) (cond e (n ∷ []) [])) (cond d (m ∷ cond e (n ∷ []) []) (cond e (n ∷ []) []))) (cond c (l ∷ cond d (m ∷ cond e (n ∷ []) []) (cond e (n ∷ []) [])) (cond d (m ∷ cond e (n ∷ []) []) (cond e (n ∷ []) [])))
    by k l m n true true true true = refl
    by k l m n true true true false = refl
    by k l m n true true false true = refl
    by k l m n true true false false = refl
    by k l m n true false true true = refl
    by k l m n true false true false = refl
    by k l m n true false false true = refl
    by k l m n true false false false = refl
    by k l m n false true true true = refl
    by k l m n false true true false = refl
    by k l m n false true false true = refl
    by k l m n false true false false = refl
    by k l m n false false true true = refl
    by k l m n false false true false = refl
    by k l m n false false false true = refl
    by k l m n false false false false = refl
