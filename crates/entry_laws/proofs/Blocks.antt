-- Blocks of lines: where an aligned block that has a line begins, and which lines a list of lines has.
use Rattle.std.proofs.Common.{◌≡◌, ℕ, zero, suc, ◌+◌, ◌-◌, ◌%◌, ◌<◌, ◌≤◌, Bool, true, false, List, [], ◌∷◌, cond, map, refl, sym, ◌∙◌, ap, subst, arith, inl, inr}
use Rattle.std.specs.Prelude.{filter, nat_le, nat_lt, ◌&&◌, ◌==◌, ◌||◌, ◌⊎◌}
use Rattle.std.specs.List.{list_all, list_any, range_with_len}
use Rattle.std.proofs.lemmas.Bool.{and_from, and_parts, cases_eq, eqb-true, false≢true, le-leb, leb-true, lt-ltb, ltb-true, or_cases, or_left, or_right}
use Rattle.cxl_message.specs.declared.opcodes.Span.{Span}
use Rattle.cxl_message.specs.Codes.{span_len}
use Rattle.cxl_message.specs.Lists.{below, is_in}
use Rattle.cxl_message.specs.Spans.{aligned, covers, lines_of}

-- ---- which lines a block has

pub covers_parts : (first : ℕ) (span : Span) (a : ℕ) → covers first span a ≡ true → (first ≤ a) × (a < first + span_len span)
covers_parts first span a h =
    let parts = and_parts (nat_le first a) (nat_lt a (first + span_len span)) h in
    (leb-true first a parts.0, ltb-true a (first + span_len span) parts.1)

pub covers_from : (first : ℕ) (span : Span) (a : ℕ) → first ≤ a → a < first + span_len span → covers first span a ≡ true
covers_from first span a low high = and_from _ _ (le-leb first a low) (lt-ltb a (first + span_len span) high)

pub some_lines : (span : Span) → 1 ≤ span_len span
some_lines Span.One = omega arith
some_lines Span.Two = omega arith
some_lines Span.Four = omega arith

pub covers_first : (first : ℕ) (span : Span) → covers first span first ≡ true
covers_first first span = let some = some_lines span in covers_from first span first (omega arith) (omega arith)

-- a block of one line has that line alone
pub covers_one : (first a : ℕ) → covers first Span.One a ≡ true → first ≡ a
covers_one first a h = let parts = covers_parts first Span.One a h in omega arith

-- an aligned block of two or four lines that has a line begins at the aligned line before it
pub begins_at_two : (first a : ℕ) → first % 2 ≡ 0 → covers first Span.Two a ≡ true → first ≡ aligned 2 a
begins_at_two first a start h = let parts = covers_parts first Span.Two a h in omega arith

pub begins_at_four : (first a : ℕ) → first % 4 ≡ 0 → covers first Span.Four a ≡ true → first ≡ aligned 4 a
begins_at_four first a start h = let parts = covers_parts first Span.Four a h in omega arith

pub aligned_two : (a : ℕ) → aligned 2 a % 2 ≡ 0
aligned_two a = omega arith

pub aligned_four : (a : ℕ) → aligned 4 a % 4 ≡ 0
aligned_four a = omega arith

pub aligned_one : (a : ℕ) → a % 1 ≡ 0
aligned_one a = omega arith

-- ---- the lines of a block as a list

all_range : (p : ℕ → Bool) (f : ℕ → ℕ) (k n : ℕ) → list_all p (map f (range_with_len k n)) ≡ true → (j : ℕ) → k ≤ j → j < k + n → p (f j) ≡ true
all_range p f k zero h j low high = absurd (omega arith)
all_range p f k (suc n) h j low high =
    let parts = and_parts (p (f k)) (list_all p (map f (range_with_len (k + 1) n))) h in
    elim (cases_eq k j) [
      | inl same ↦ subst (λ x. p (f x) ≡ true) same parts.0
      | inr differ ↦ all_range p f (k + 1) n parts.1 j (omega arith) (omega arith)
    ]

back_to : (first a : ℕ) → first ≤ a → first + (a - first) ≡ a
back_to first a h = omega arith

-- what holds of each line of a block holds of a line that it has
pub all_lines : (p : ℕ → Bool) (first : ℕ) (span : Span) → list_all p (lines_of first span) ≡ true → (a : ℕ) → covers first span a ≡ true → p a ≡ true
all_lines p first span h a covered =
    let parts = covers_parts first span a covered in
    subst (λ x. p x ≡ true) (back_to first a parts.0) (all_range p (λ k. first + k) 0 (span_len span) h (a - first) (omega arith) (omega arith))

in_range : (a first k n : ℕ) → list_any (λ y. a == y) (map (λ k. first + k) (range_with_len k n)) ≡ true → (first + k ≤ a) × (a < first + k + n)
in_range a first k zero h = absurd (false≢true h)
in_range a first k (suc n) h =
    elim (or_cases (a == (first + k)) _ h) [
      | inl here ↦ (let same = eqb-true a (first + k) here in (omega arith, omega arith))
      | inr later ↦ (let parts = in_range a first (k + 1) n later in (omega arith, omega arith))
    ]

-- a line of the list is one that the block has
pub covers_listed : (first : ℕ) (span : Span) (a : ℕ) → is_in a (lines_of first span) ≡ true → covers first span a ≡ true
covers_listed first span a h = let parts = in_range a first 0 (span_len span) h in covers_from first span a (omega arith) (omega arith)

-- ---- lists of numbers

-- what is tested of all numbers below a bound holds of each
all_from : (p : ℕ → Bool) (k n : ℕ) → list_all p (range_with_len k n) ≡ true → (j : ℕ) → k ≤ j → j < k + n → p j ≡ true
all_from p k zero h j low high = absurd (omega arith)
all_from p k (suc n) h j low high =
    let parts = and_parts (p k) (list_all p (range_with_len (k + 1) n)) h in
    elim (cases_eq k j) [
      | inl same ↦ subst (λ x. p x ≡ true) same parts.0
      | inr differ ↦ all_from p (k + 1) n parts.1 j (omega arith) (omega arith)
    ]

pub all_below : (p : ℕ → Bool) (n : ℕ) → list_all p (below n) ≡ true → (j : ℕ) → j < n → p j ≡ true
all_below p n h j high = all_from p 0 n h j (omega arith) (omega arith)

from_all : (p : ℕ → Bool) (k n : ℕ) → ((j : ℕ) → k ≤ j → j < k + n → p j ≡ true) → list_all p (range_with_len k n) ≡ true
from_all p k zero h = refl
from_all p k (suc n) h = and_from _ _ (h k (omega arith) (omega arith)) (from_all p (k + 1) n (λ j low high. h j (omega arith) (omega arith)))

pub below_all : (p : ℕ → Bool) (n : ℕ) → ((j : ℕ) → j < n → p j ≡ true) → list_all p (below n) ≡ true
below_all p n h = from_all p 0 n (λ j low high. h j (omega arith))

-- some element passes one test, so it passes another, or something else holds
pub any_or :
    {X : Type 0} (C : Type 0) (p q : X → Bool) → ((x : X) → p x ≡ true → (q x ≡ true) ⊎ C) → (xs : List X) → list_any p xs ≡ true → (list_any q xs ≡ true) ⊎ C
any_or C p q each [] h = absurd (false≢true h)
any_or C p q each (x ∷ xs) h =
    elim (or_cases (p x) (list_any p xs) h) [
      | inl here ↦ (elim (each x here) [ inl found ↦ inl (or_left _ _ found) | inr c ↦ inr c ])
      | inr later ↦ (elim (any_or C p q each xs later) [ inl found ↦ inl (or_right _ _ found) | inr c ↦ inr c ])
    ]

kept_in :
    (a x : ℕ) (keep passes rest after : Bool) → ((a == x) ≡ true → passes ≡ keep) → after ≡ (rest && passes)
    → (cond keep ((a == x) || after) after) ≡ (((a == x) || rest) && passes)
kept_in a x true true rest after same is = grind (arith, same, is)
kept_in a x true false rest after same is = grind (arith, same, is)
kept_in a x false true rest after same is = grind (arith, same, is)
kept_in a x false false rest after same is = grind (arith, same, is)

any_chosen :
    {X : Type 0} (p : X → Bool) (keep : Bool) (x : X) (xs : List X) → list_any p (cond keep (x ∷ xs) xs) ≡ cond keep (p x || list_any p xs) (list_any p xs)
any_chosen p true x xs = refl
any_chosen p false x xs = refl

-- a number is among those that a filter keeps where it is there and passes
pub in_filter : (a : ℕ) (p : ℕ → Bool) (xs : List ℕ) → is_in a (filter p xs) ≡ (is_in a xs && p a)
in_filter a p [] = refl
in_filter a p (x ∷ xs) =
    any_chosen (λ y. a == y) (p x) x (filter p xs)
    ∙ kept_in a x (p x) (p a) (is_in a xs) (is_in a (filter p xs)) (λ same. ap p (eqb-true a x same)) (in_filter a p xs)

at_from : (p : ℕ → Bool) (k n x : ℕ) → k ≤ x → x < k + n → p x ≡ true → list_any p (range_with_len k n) ≡ true
at_from p k zero x low high passes = absurd (omega arith)
at_from p k (suc n) x low high passes =
    elim (cases_eq k x) [
      | inl same ↦ or_left _ _ (subst (λ y. p y ≡ true) (sym same) passes)
      | inr differ ↦ or_right _ _ (at_from p (k + 1) n x (omega arith) (omega arith) passes)
    ]

-- one number below a bound that passes is some that passes
pub any_at : (p : ℕ → Bool) (n x : ℕ) → x < n → p x ≡ true → list_any p (below n) ≡ true
any_at p n x high passes = at_from p 0 n x (omega arith) (omega arith) passes

found_from : (p : ℕ → Bool) (k n : ℕ) → list_any p (range_with_len k n) ≡ true → (x : ℕ) × (x < k + n) × (p x ≡ true)
found_from p k zero h = absurd (false≢true h)
found_from p k (suc n) h =
    elim (or_cases (p k) (list_any p (range_with_len (k + 1) n)) h) [
      | inl here ↦ (k, omega arith, here)
      | inr later ↦ (let found = found_from p (k + 1) n later in (found.0, omega arith, found.2))
    ]

-- where some number below a bound passes, there is such a number
pub any_below : (p : ℕ → Bool) (n : ℕ) → list_any p (below n) ≡ true → (x : ℕ) × (x < n) × (p x ≡ true)
any_below p n h = let found = found_from p 0 n h in (found.0, omega arith, found.2)
