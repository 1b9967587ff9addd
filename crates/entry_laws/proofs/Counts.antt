-- Counts of reservations over all hosts and tags, and lengths of filtered lists.
use Rattle.std.proofs.Common.{◌≡◌, ℕ, zero, suc, ◌+◌, ◌<◌, ◌≤◌, Bool, true, false, List, [], ◌∷◌, cond, length, refl, sym, ◌∙◌, ap, subst, arith, inl, inr, map}
use Rattle.std.specs.Prelude.{count_by, filter, nat_le, nat_lt, sum_by, ◌&&◌, ◌==◌, ◌||◌}
use Rattle.std.specs.List.{range_with_len}
use Rattle.std.proofs.lemmas.Bool.{and_from, cases_eq, eq-eqb, eqb-true, false≢true, and_left, and_right, ne_eqb, false_from_ne_true}
use Rattle.std.proofs.lemmas.Bool.Decides.{nat_tests}
use Rattle.std.proofs.lemmas.List.Sums.{count_by-le-length, length-filter, sum_by-cons}
use Rattle.cxl_message.specs.declared.opcodes.Span.{Span}
use Rattle.cxl_message.specs.Codes.{span_len}
use Rattle.cxl_message.specs.Lists.{below, is_in}
use Rattle.cxl_message.specs.Spans.{lines_of}

-- ---- sums

sums_two : (a b c s t u : ℕ) → a ≤ b + c → s ≤ t + u → a + s ≤ (b + t) + (c + u)
sums_two a b c s t u h k = omega arith

-- a sum whose terms are at most those of two others together
pub sum_at_most : {X : Type 0} (f g k : X → ℕ) → ((x : X) → f x ≤ g x + k x) → (xs : List X) → sum_by f xs ≤ sum_by g xs + sum_by k xs
sum_at_most f g k h [] = omega arith
sum_at_most f g k h (x ∷ xs) =
    rw (sum_by-cons f x xs, sum_by-cons g x xs, sum_by-cons k x xs)
    (sums_two (f x) (g x) (k x) (sum_by f xs) (sum_by g xs) (sum_by k xs) (h x) (sum_at_most f g k h xs))

sums_both : (a b c s t u : ℕ) → b + c ≤ a → t + u ≤ s → (b + t) + (c + u) ≤ a + s
sums_both a b c s t u h k = omega arith

-- a sum whose terms are at least those of two others together
pub sum_at_least : {X : Type 0} (f g k : X → ℕ) → ((x : X) → g x + k x ≤ f x) → (xs : List X) → sum_by g xs + sum_by k xs ≤ sum_by f xs
sum_at_least f g k h [] = omega arith
sum_at_least f g k h (x ∷ xs) =
    rw (sum_by-cons f x xs, sum_by-cons g x xs, sum_by-cons k x xs)
    (sums_both (f x) (g x) (k x) (sum_by f xs) (sum_by g xs) (sum_by k xs) (h x) (sum_at_least f g k h xs))

range-none : (a x fx : ℕ) → 0 ≡ cond (nat_le a x && nat_lt x (a + 0)) fx 0
range-none a x fx = grind (arith, nat_tests)

range-step :
    (a x n fa fx : ℕ) → (a ≡ x → fa ≡ fx) → ((a ≡ x → ⊥) → fa ≡ 0)
    → fa + cond (nat_le (a + 1) x && nat_lt x (a + 1 + n)) fx 0 ≡ cond (nat_le a x && nat_lt x (a + suc n)) fx 0
range-step a x n fa fx same other = grind (arith, nat_tests)

sum_of_range :
    (f : ℕ → ℕ) (x : ℕ) → ((k : ℕ) → (k ≡ x → ⊥) → f k ≡ 0) → (a n : ℕ) → sum_by f (range_with_len a n) ≡ cond (nat_le a x && nat_lt x (a + n)) (f x) 0
sum_of_range f x h a zero = range-none a x (f x)
sum_of_range f x h a (suc n) = rw (sum_by-cons f a (range_with_len (a + 1) n), sum_of_range f x h (a + 1) n) (range-step a x n (f a) (f x) (ap f) (h a))

below-all : (n x fx : ℕ) → cond (nat_le 0 x && nat_lt x (0 + n)) fx 0 ≡ cond (nat_lt x n) fx 0
below-all n x fx = grind (arith, nat_tests)

-- a sum over the numbers below n of which one at most counts
pub sum_of_one : (f : ℕ → ℕ) (x n : ℕ) → ((k : ℕ) → (k ≡ x → ⊥) → f k ≡ 0) → sum_by f (below n) ≡ cond (nat_lt x n) (f x) 0
sum_of_one f x n h = sum_of_range f x h 0 n ∙ below-all n x (f x)

-- ---- counts over hosts and tags

-- how many pairs of a host and a tag pass
abbrev pub pair_count : (ℕ → ℕ → Bool) → ℕ → ℕ → ℕ
pair_count p hosts tags = sum_by (λ h. count_by (λ tag. p h tag) (below tags)) (below hosts)

-- a test of one pair
abbrev pub is_pair : ℕ → ℕ → ℕ → ℕ → Bool
is_pair host k h tag = (host == h) && (k == tag)

at_most_both : (p q r : Bool) → (p ≡ true → q ≡ false → r ≡ true) → cond p 1 0 ≤ cond q 1 0 + cond r 1 0
at_most_both true true r h = omega arith
at_most_both true false r h = rw (h refl refl) (omega arith)
at_most_both false q r h = omega arith

pub pairs_at_most :
    (p q r : ℕ → ℕ → Bool) (hosts tags : ℕ) → ((h tag : ℕ) → p h tag ≡ true → q h tag ≡ false → r h tag ≡ true)
    → pair_count p hosts tags ≤ pair_count q hosts tags + pair_count r hosts tags
pairs_at_most p q r hosts tags h =
    sum_at_most (λ x. count_by (λ tag. p x tag) (below tags)) (λ x. count_by (λ tag. q x tag) (below tags)) (λ x. count_by (λ tag. r x tag) (below tags))
    (λ x. sum_at_most (λ tag. cond (p x tag) 1 0) (λ tag. cond (q x tag) 1 0) (λ tag. cond (r x tag) 1 0)
    (λ tag. at_most_both (p x tag) (q x tag) (r x tag) (h x tag)) (below tags)) (below hosts)

at_least_both : (p q r : Bool) → (q ≡ true → p ≡ true) → (r ≡ true → (p ≡ true) × (q ≡ false)) → cond q 1 0 + cond r 1 0 ≤ cond p 1 0
at_least_both p true true from once = absurd (false≢true (sym (once refl).1))
at_least_both p true false from once = rw (from refl) (omega arith)
at_least_both p false true from once = rw (once refl).0 (omega arith)
at_least_both p false false from once = omega arith

pub pairs_at_least :
    (p q r : ℕ → ℕ → Bool) (hosts tags : ℕ) → ((h tag : ℕ) → q h tag ≡ true → p h tag ≡ true) →
    ((h tag : ℕ) → r h tag ≡ true → (p h tag ≡ true) × (q h tag ≡ false))
    → pair_count q hosts tags + pair_count r hosts tags ≤ pair_count p hosts tags
pairs_at_least p q r hosts tags from once =
    sum_at_least (λ x. count_by (λ tag. p x tag) (below tags)) (λ x. count_by (λ tag. q x tag) (below tags)) (λ x. count_by (λ tag. r x tag) (below tags))
    (λ x. sum_at_least (λ tag. cond (p x tag) 1 0) (λ tag. cond (q x tag) 1 0) (λ tag. cond (r x tag) 1 0)
    (λ tag. at_least_both (p x tag) (q x tag) (r x tag) (from x tag) (once x tag)) (below tags)) (below hosts)

none_of : (b : Bool) → b ≡ false → cond {A = ℕ} b 1 0 ≡ 0
none_of b h = rw h

other_tag : (host k h tag : ℕ) → (tag ≡ k → ⊥) → is_pair host k h tag ≡ false
other_tag host k h tag differ = and_right _ _ (ne_eqb k tag (λ same. differ (sym same)))

other_host_pair : (host k h tag : ℕ) → (h ≡ host → ⊥) → is_pair host k h tag ≡ false
other_host_pair host k h tag differ = and_left _ _ (ne_eqb host h (λ same. differ (sym same)))

chosen_zero : (b : Bool) (n : ℕ) → n ≡ 0 → cond b n 0 ≡ 0
chosen_zero true n h = h
chosen_zero false n h = refl

nothing_there : (host k h tags : ℕ) → (h ≡ host → ⊥) → cond {A = ℕ} (nat_lt k tags) (cond (is_pair host k h k) 1 0) 0 ≡ 0
nothing_there host k h tags differ = chosen_zero (nat_lt k tags) (cond (is_pair host k h k) 1 0) (none_of _ (other_host_pair host k h k differ))

other_host : (host k h : ℕ) (tags : ℕ) → (h ≡ host → ⊥) → count_by (λ tag. is_pair host k h tag) (below tags) ≡ 0
other_host host k h tags differ =
    sum_of_one (λ tag. cond (is_pair host k h tag) 1 0) k tags (λ tag other. none_of _ (other_tag host k h tag other)) ∙ nothing_there host k h tags differ

own_host : (host k tags : ℕ) → count_by (λ tag. is_pair host k host tag) (below tags) ≡ cond (nat_lt k tags) (cond (is_pair host k host k) 1 0) 0
own_host host k tags = sum_of_one (λ tag. cond (is_pair host k host tag) 1 0) k tags (λ tag other. none_of _ (other_tag host k host tag other))

-- how often one pair counts: once where its host and its tag exist
pub pair_is_one :
    (host k hosts tags : ℕ) → pair_count (is_pair host k) hosts tags ≡ cond (nat_lt host hosts) (cond (nat_lt k tags) (cond (is_pair host k host k) 1 0) 0) 0
pair_is_one host k hosts tags =
    sum_of_one (λ h. count_by (λ tag. is_pair host k h tag) (below tags)) host hosts (λ h other. other_host host k h tags other)
    ∙ ap (λ n. cond (nat_lt host hosts) n 0) (own_host host k tags)

at_most_one : (x y z : Bool) → cond x (cond y (cond z 1 0) 0) 0 ≤ 1
at_most_one true true true = omega arith
at_most_one true true false = omega arith
at_most_one true false z = omega arith
at_most_one false y z = omega arith

pub pair_at_most_one : (host k hosts tags : ℕ) → pair_count (is_pair host k) hosts tags ≤ 1
pair_at_most_one host k hosts tags =
    subst (λ n. n ≤ 1) (sym (pair_is_one host k hosts tags)) (at_most_one (nat_lt host hosts) (nat_lt k tags) (is_pair host k host k))

own_pair : (host k : ℕ) → is_pair host k host k ≡ true
own_pair host k = and_from _ _ (eq-eqb host host refl) (eq-eqb k k refl)

just_one : (x y z : Bool) → x ≡ true → y ≡ true → z ≡ true → cond {A = ℕ} x (cond y (cond z 1 0) 0) 0 ≡ 1
just_one x y z h j k = rw (h, j, k)

pub pair_exists : (host k hosts tags : ℕ) → nat_lt host hosts ≡ true → nat_lt k tags ≡ true → pair_count (is_pair host k) hosts tags ≡ 1
pair_exists host k hosts tags h j = pair_is_one host k hosts tags ∙ just_one (nat_lt host hosts) (nat_lt k tags) (is_pair host k host k) h j (own_pair host k)

pub sum_of_zeros : {X : Type 0} (f : X → ℕ) → ((x : X) → f x ≡ 0) → (xs : List X) → sum_by f xs ≡ 0
sum_of_zeros f h [] = refl
sum_of_zeros f h (x ∷ xs) = rw (sum_by-cons f x xs, h x, sum_of_zeros f h xs)

-- no pair passes
pub no_pairs : (hosts tags : ℕ) → pair_count (λ h tag. false) hosts tags ≡ 0
no_pairs hosts tags = sum_of_zeros (λ h. count_by (λ tag. false) (below tags)) (λ h. sum_of_zeros (λ tag. 0) (λ tag. refl) (below tags)) (below hosts)

-- ---- lengths

-- what a filter keeps is no longer
pub filter_shorter : {X : Type 0} (p : X → Bool) (xs : List X) → length (filter p xs) ≤ length xs
filter_shorter p xs = subst (λ n. n ≤ length xs) (sym (length-filter p xs)) (count_by-le-length p xs)

one_longer : (n m : ℕ) → n ≤ m → n + 1 ≤ suc m
one_longer n m h = omega arith

lost_tail :
    (x : ℕ) (p : ℕ → Bool) (xs : List ℕ) (b : Bool) → length (filter p xs) + 1 ≤ length xs
    → length (cond b (x ∷ filter p xs) (filter p xs)) + 1 ≤ length (x ∷ xs)
lost_tail x p xs true less = omega arith
lost_tail x p xs false less = omega arith

lost_here : (x : ℕ) (p : ℕ → Bool) (xs : List ℕ) (b : Bool) → b ≡ false → length (cond b (x ∷ filter p xs) (filter p xs)) + 1 ≤ length (x ∷ xs)
lost_here x p xs true none = absurd (false≢true (sym none))
lost_here x p xs false none = one_longer (length (filter p xs)) (length xs) (filter_shorter p xs)

lost_step :
    (a x : ℕ) (p : ℕ → Bool) (xs : List ℕ) (here : Bool) → (a == x) ≡ here → p a ≡ false → (here || is_in a xs) ≡ true
    → (is_in a xs ≡ true → length (filter p xs) + 1 ≤ length xs) → length (cond (p x) (x ∷ filter p xs) (filter p xs)) + 1 ≤ length (x ∷ xs)
lost_step a x p xs true same lost there later = lost_here x p xs (p x) (subst (λ y. p y ≡ false) (eqb-true a x same) lost)
lost_step a x p xs false same lost there later = lost_tail x p xs (p x) (later there)

-- and shorter where it loses an element
pub filter_loses : (a : ℕ) (p : ℕ → Bool) (xs : List ℕ) → p a ≡ false → is_in a xs ≡ true → length (filter p xs) + 1 ≤ length xs
filter_loses a p [] lost there = absurd (false≢true there)
filter_loses a p (x ∷ xs) lost there = lost_step a x p xs (a == x) refl lost there (filter_loses a p xs lost)

-- ---- at most one number passes

no_more : (b : Bool) (n : ℕ) → b ≡ false → n ≡ 0 → cond b 1 0 + n ≡ 0
no_more b n h k = rw (h, k)

none_from : (p : ℕ → Bool) (k n : ℕ) → ((x : ℕ) → k ≤ x → p x ≡ false) → count_by p (range_with_len k n) ≡ 0
none_from p k zero h = refl
none_from p k (suc n) h =
    sum_by-cons (λ x. cond (p x) 1 0) k (range_with_len (k + 1) n) ∙ no_more (p k) (count_by p (range_with_len (k + 1) n)) (h k (omega arith))
    (none_from p (k + 1) n (λ x high. h x (omega arith)))

few_from :
    (p : ℕ → Bool) (k n : ℕ) (b : Bool) → p k ≡ b → ((x y : ℕ) → p x ≡ true → p y ≡ true → x ≡ y) → (count_by p (range_with_len (k + 1) n) ≤ 1)
    → cond b 1 0 + count_by p (range_with_len (k + 1) n) ≤ 1
few_from p k n true is alone few =
    let none = none_from p (k + 1) n (λ x high. false_from_ne_true (p x) (λ passes. (let same = alone k x is passes in absurd (omega arith)))) in omega arith
few_from p k n false is alone few = omega arith

few_range : (p : ℕ → Bool) → ((x y : ℕ) → p x ≡ true → p y ≡ true → x ≡ y) → (k n : ℕ) → count_by p (range_with_len k n) ≤ 1
few_range p alone k zero = omega arith
few_range p alone k (suc n) =
    subst (λ m. m ≤ 1) (sym (sum_by-cons (λ x. cond (p x) 1 0) k (range_with_len (k + 1) n))) (few_from p k n (p k) refl alone (few_range p alone (k + 1) n))

-- where any two numbers that pass are one, at most one passes
pub at_most_one_below : (p : ℕ → Bool) (n : ℕ) → ((x y : ℕ) → p x ≡ true → p y ≡ true → x ≡ y) → count_by p (below n) ≤ 1
at_most_one_below p n alone = few_range p alone 0 n

-- where no number passes the count is zero
pub count_none_below : (p : ℕ → Bool) (n : ℕ) → ((x : ℕ) → p x ≡ false) → count_by p (below n) ≡ 0
count_none_below p n h = none_from p 0 n (λ x low. h x)

one_there : (b : Bool) (n : ℕ) → b ≡ true → 1 ≤ cond b 1 0 + n
one_there true n h = omega arith
one_there false n h = absurd (false≢true h)

one_later : (b : Bool) (n : ℕ) → 1 ≤ n → 1 ≤ cond b 1 0 + n
one_later true n h = omega arith
one_later false n h = omega arith

some_from : (p : ℕ → Bool) (k n x : ℕ) → k ≤ x → x < k + n → p x ≡ true → 1 ≤ count_by p (range_with_len k n)
some_from p k zero x low high passes = absurd (omega arith)
some_from p k (suc n) x low high passes =
    subst (λ m. 1 ≤ m) (sym (sum_by-cons (λ y. cond (p y) 1 0) k (range_with_len (k + 1) n)))
    (elim (cases_eq k x) [
      | inl same ↦ (let here = subst (λ y. p y ≡ true) (sym same) passes in one_there (p k) (count_by p (range_with_len (k + 1) n)) here)
      | inr differ ↦ (let later = some_from p (k + 1) n x (omega arith) (omega arith) passes in one_later (p k) (count_by p (range_with_len (k + 1) n)) later)
    ])

-- where one number below the bound passes the count isn't zero
pub count_at_least_one : (p : ℕ → Bool) (n x : ℕ) → x < n → p x ≡ true → 1 ≤ count_by p (below n)
count_at_least_one p n x high passes = some_from p 0 n x (omega arith) (omega arith) passes

count_of_map : (p : ℕ → Bool) (f : ℕ → ℕ) (xs : List ℕ) → count_by p (map f xs) ≡ count_by (λ x. p (f x)) xs
count_of_map p f [] = refl
count_of_map p f (x ∷ xs) = rw (sum_by-cons (λ y. cond (p y) 1 0) (f x) (map f xs), sum_by-cons (λ y. cond (p (f y)) 1 0) x xs, count_of_map p f xs)

same_place : (b first x y : ℕ) → b ≡ first + x → b ≡ first + y → x ≡ y
same_place b first x y h k = omega arith

-- the lines of a block have no line twice
pub lines_once : (b first : ℕ) (span : Span) → count_by (λ c. b == c) (lines_of first span) ≤ 1
lines_once b first span =
    subst (λ n. n ≤ 1) (sym (count_of_map (λ c. b == c) (λ k. first + k) (below (span_len span))))
    (at_most_one_below (λ k. b == (first + k)) (span_len span) (λ x y at_x at_y. same_place b first x y (eqb-true b (first + x) at_x) (eqb-true b (first + y) at_y)))
