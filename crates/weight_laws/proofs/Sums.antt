-- Sums over lists and over the numbers below a bound: joined, compared, and changed in one place.
use Rattle.std.proofs.Common.{◌≡◌, ℕ, zero, suc, ◌+◌, ◌≤◌, ◌<◌, Bool, true, false, List, [], ◌∷◌, cond, sum_by, refl, sym, ◌∙◌, ap, subst, arith, ◌⊎◌, inl, inr}
use Rattle.std.specs.Prelude.{not, ◌==◌, ◌||◌}
use Rattle.std.specs.List.{range_with_len}
use Rattle.std.proofs.lemmas.Bool.{eq-eqb, eqb-true, false≢true, or_left, or_parts, or_right}
use Rattle.std.proofs.lemmas.List.Sums.{sum_by-cons}
use Rattle.cxl_message.specs.declared.opcodes.Span.{Span}
use Rattle.cxl_message.specs.Lists.{below, is_in, without}
use Rattle.cxl_message.specs.Spans.{covers, lines_of}
use Rattle.request_laws.proofs.Counts.{covers-lines, list_any-count}

-- a sum of sums
pub sum_plus : {X : Type 0} (f g : X → ℕ) (xs : List X) → sum_by (λ x. f x + g x) xs ≡ sum_by f xs + sum_by g xs
sum_plus f g [] = refl
sum_plus f g (x ∷ xs) =
    let whole = sum_by-cons (λ y. f y + g y) x xs in
    let first = sum_by-cons f x xs in
    let second = sum_by-cons g x xs in
    let rest = sum_plus f g xs in
    omega arith

-- equal terms
pub sum_same : {X : Type 0} (f g : X → ℕ) (xs : List X) → ((x : X) → f x ≡ g x) → sum_by f xs ≡ sum_by g xs
sum_same f g [] h = refl
sum_same f g (x ∷ xs) h = sum_by-cons f x xs ∙ ap (λ n. n + sum_by f xs) (h x) ∙ ap (λ n. g x + n) (sum_same f g xs h) ∙ sym (sum_by-cons g x xs)

here_or_later : (a x : ℕ) → a ≤ x → (a ≡ x) ⊎ (a + 1 ≤ x)
here_or_later a x h = grind arith

range_le : (f g : ℕ → ℕ) (a n : ℕ) → ((k : ℕ) → a ≤ k → k < a + n → f k ≤ g k) → sum_by f (range_with_len a n) ≤ sum_by g (range_with_len a n)
range_le f g a zero h = omega arith
range_le f g a (suc n) h =
    let first = sum_by-cons f a (range_with_len (a + 1) n) in
    let second = sum_by-cons g a (range_with_len (a + 1) n) in
    let here = h a (omega arith) (omega arith) in
    let rest = range_le f g (a + 1) n (λ k least most. h k (omega arith) (omega arith)) in
    omega arith

-- terms that are no more
pub below_le : (f g : ℕ → ℕ) (n : ℕ) → ((k : ℕ) → k < n → f k ≤ g k) → sum_by f (below n) ≤ sum_by g (below n)
below_le f g n h = range_le f g 0 n (λ k least most. h k (omega arith))

range_one : (f g : ℕ → ℕ) (a n x d u : ℕ) → a ≤ x → x < a + n → ((k : ℕ) → a ≤ k → k < a + n → (k ≡ x → ⊥) → f k ≤ g k) → f x + d ≤ g x + u
    → sum_by f (range_with_len a n) + d ≤ sum_by g (range_with_len a n) + u
range_one f g a zero x d u least most h at = absurd (omega arith)
range_one f g a (suc n) x d u least most h at =
    let first = sum_by-cons f a (range_with_len (a + 1) n) in
    let second = sum_by-cons g a (range_with_len (a + 1) n) in
    elim (here_or_later a x least) [
      | inl same ↦
          let here : f a + d ≤ g a + u = subst (λ y. f y + d ≤ g y + u) (sym same) at in
          let rest = range_le f g (a + 1) n (λ k low high. h k (omega arith) (omega arith) (λ e. omega arith)) in
          omega arith
      | inr later ↦
          let here = h a (omega arith) (omega arith) (λ e. omega arith) in
          let rest = range_one f g (a + 1) n x d u later (omega arith) (λ k low high other. h k (omega arith) (omega arith) other) at in
          omega arith
    ]

-- terms that are no more but in one place
pub below_one : (f g : ℕ → ℕ) (n x d u : ℕ) → x < n → ((k : ℕ) → k < n → (k ≡ x → ⊥) → f k ≤ g k) → f x + d ≤ g x + u → sum_by f (below n) + d ≤ sum_by g (below n) + u
below_one f g n x d u less h at = range_one f g 0 n x d u (omega arith) (omega arith) (λ k least most other. h k (omega arith) other) at

-- what is in a list is its first or in the rest
pub in_cases : (y x : ℕ) (xs : List ℕ) → (is_in y (x ∷ xs) ≡ true) → (y ≡ x) ⊎ (is_in y xs ≡ true)
in_cases y x xs there = by_test (y == x) refl there
  where
    by_test : (b : Bool) → (y == x) ≡ b → (b || is_in y xs) ≡ true → (y ≡ x) ⊎ (is_in y xs ≡ true)
    by_test true is h = inl (eqb-true y x is)
    by_test false is h = inr h

-- terms of a list that are no more
pub list_le : (f g : ℕ → ℕ) (xs : List ℕ) → ((x : ℕ) → is_in x xs ≡ true → f x ≤ g x) → sum_by f xs ≤ sum_by g xs
list_le f g [] h = omega arith
list_le f g (x ∷ xs) h =
    let first = sum_by-cons f x xs in
    let second = sum_by-cons g x xs in
    let here = h x (or_left (x == x) (is_in x xs) (eq-eqb x x refl)) in
    let rest = list_le f g xs (λ y there. h y (or_right (y == x) (is_in y xs) there)) in
    omega arith

-- and less by so much at one of them
pub list_less : (f g : ℕ → ℕ) (xs : List ℕ) (x d : ℕ) → is_in x xs ≡ true → ((y : ℕ) → is_in y xs ≡ true → f y ≤ g y) → f x + d ≤ g x → sum_by f xs + d ≤ sum_by g xs
list_less f g [] x d there h at = absurd (false≢true there)
list_less f g (y ∷ ys) x d there h at =
    let first = sum_by-cons f y ys in
    let second = sum_by-cons g y ys in
    elim (in_cases x y ys there) [
      | inl same ↦
          let here : f y + d ≤ g y = subst (λ z. f z + d ≤ g z) same at in
          let rest = list_le f g ys (λ z in_rest. h z (or_right (z == y) (is_in z ys) in_rest)) in
          omega arith
      | inr later ↦
          let here = h y (or_left (y == y) (is_in y ys) (eq-eqb y y refl)) in
          let rest = list_less f g ys x d later (λ z in_rest. h z (or_right (z == y) (is_in z ys) in_rest)) at in
          omega arith
    ]

-- ---- what is in a list without a number

kept_in : (x y : ℕ) (ys rest : List ℕ) (here gone : Bool) → (x == y) ≡ here → (gone ≡ true → here ≡ false) → (is_in x ys ≡ true → is_in x rest ≡ true) → (here || is_in x ys) ≡ true → is_in x (cond (not gone) (y ∷ rest) rest) ≡ true
kept_in x y ys rest true true is apart later there = absurd (false≢true (sym (apart refl)))
kept_in x y ys rest true false is apart later there = or_left (x == y) (is_in x rest) is
kept_in x y ys rest false true is apart later there = later there
kept_in x y ys rest false false is apart later there = or_right (x == y) (is_in x rest) (later there)

pub in_without : (x z : ℕ) (ys : List ℕ) → is_in x ys ≡ true → (x == z) ≡ false → is_in x (without z ys) ≡ true
in_without x z [] there other = there
in_without x z (y ∷ ys) there other =
    kept_in x y ys (without z ys) (x == y) (z == y) refl (λ gone. ap (λ w. x == w) (sym (eqb-true z y gone)) ∙ other) (λ rest. in_without x z ys rest other) there

never_in : (x y : ℕ) (ys rest : List ℕ) (keep : Bool) → (x == y) ≡ false → is_in x rest ≡ false → is_in x (cond keep (y ∷ rest) rest) ≡ false
never_in x y ys rest true other none = ap (λ b. b || is_in x rest) other ∙ none
never_in x y ys rest false other none = none

pub not_in_without : (x z : ℕ) (ys : List ℕ) → is_in x ys ≡ false → is_in x (without z ys) ≡ false
not_in_without x z [] none = refl
not_in_without x z (y ∷ ys) none =
    let parts = or_parts (x == y) (is_in x ys) none in never_in x y ys (without z ys) (not (z == y)) parts.0 (not_in_without x z ys parts.1)

-- a line that a block covers is in its list
pub in_lines : (first : ℕ) (span : Span) (b : ℕ) → covers first span b ≡ true → is_in b (lines_of first span) ≡ true
in_lines first span b covered = list_any-count (λ y. b == y) (lines_of first span) ∙ sym (covers-lines first b span) ∙ covered
