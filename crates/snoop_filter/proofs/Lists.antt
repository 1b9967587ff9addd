-- Lists of places: membership, counts, and tables with one place set.
use Rattle.std.proofs.Common.{◌≡◌, ◌≢◌, ℕ, zero, suc, ◌+◌, ◌<◌, ◌≤◌, Bool, true, false, List, [], ◌∷◌, ◌++◌, ◌⊎◌, inl, inr, Some, cond, length, refl, ap, sym, ◌∙◌, arith}
use Rattle.std.specs.Prelude.{not, slice_get, slice_set, take, ◌==◌}
use Rattle.std.specs.List.{range_with_len}
use Rattle.std.proofs.lemmas.Bool.{cases_eq, le-ltb, lt-ltb, eq-eqb, eqb-true, eqb-false, false≢true, ne_eqb, or_cases, or_left, or_parts, or_right}
use Rattle.std.proofs.lemmas.List.Sums.{sum_by-cons, sum_by_push}
use Rattle.cxl_message.specs.Lists.{is_in, without}
use Rattle.snoop_filter.specs.Places.{once_below, times, times_of}

-- ---- one place of a table set

pub get_same : {X : Type 0} (xs : List X) (a : ℕ) (x : X) → a < length xs → slice_get (slice_set xs a x) a ≡ Some x
get_same [] a x low = absurd (omega arith)
get_same (y ∷ xs) zero x low = refl
get_same (y ∷ xs) (suc a) x low = get_same xs a x (omega arith)

pub get_other : {X : Type 0} (xs : List X) (a b : ℕ) (x : X) → (b ≡ a → ⊥) → slice_get (slice_set xs a x) b ≡ slice_get xs b
get_other [] a b x other = refl
get_other (y ∷ xs) zero zero x other = absurd (other refl)
get_other (y ∷ xs) zero (suc b) x other = refl
get_other (y ∷ xs) (suc a) zero x other = refl
get_other (y ∷ xs) (suc a) (suc b) x other = get_other xs a b x (λ same. other (ap suc same))

pub set_length : {X : Type 0} (xs : List X) (a : ℕ) (x : X) → length (slice_set xs a x) ≡ length xs
set_length [] a x = refl
set_length (y ∷ xs) zero x = refl
set_length (y ∷ xs) (suc a) x = ap suc (set_length xs a x)

pub get_taken : {X : Type 0} (xs : List X) (n a : ℕ) → a < n → slice_get (take n xs) a ≡ slice_get xs a
get_taken [] zero a low = absurd (omega arith)
get_taken [] (suc n) a low = refl
get_taken (x ∷ xs) zero a low = absurd (omega arith)
get_taken (x ∷ xs) (suc n) zero low = refl
get_taken (x ∷ xs) (suc n) (suc a) low = get_taken xs n a (omega arith)

pub set_taken : {X : Type 0} (xs : List X) (n a : ℕ) (x : X) → take n (slice_set xs a x) ≡ slice_set (take n xs) a x
set_taken xs zero a x = refl
set_taken [] (suc n) a x = refl
set_taken (y ∷ xs) (suc n) zero x = refl
set_taken (y ∷ xs) (suc n) (suc a) x = ap (λ l. y ∷ l) (set_taken xs n a x)

-- ---- membership

pub in_first : (x : ℕ) (xs : List ℕ) → is_in x (x ∷ xs) ≡ true
in_first x xs = or_left _ _ (eq-eqb x x refl)

pub in_later : (p x : ℕ) (xs : List ℕ) → is_in p xs ≡ true → is_in p (x ∷ xs) ≡ true
in_later p x xs there = or_right (p == x) (is_in p xs) there

-- a place of the longer list is one of the list or the last
pub in_pushed : (p q : ℕ) (xs : List ℕ) → is_in p (xs ++ q ∷ []) ≡ true → (is_in p xs ≡ true) ⊎ (p ≡ q)
in_pushed p q [] there = elim (or_cases (p == q) false there) [ inl same ↦ inr (eqb-true p q same) | inr none ↦ absurd (false≢true none) ]
in_pushed p q (x ∷ xs) there =
    elim (or_cases (p == x) (is_in p (xs ++ q ∷ [])) there) [
      | inl here ↦ inl (or_left _ _ here)
      | inr later ↦ (elim (in_pushed p q xs later) [ inl inside ↦ inl (in_later p x xs inside) | inr last ↦ inr last ])
    ]

pub pushed_in : (p q : ℕ) (xs : List ℕ) → is_in p xs ≡ true → is_in p (xs ++ q ∷ []) ≡ true
pushed_in p q [] there = absurd (false≢true there)
pushed_in p q (x ∷ xs) there =
    elim (or_cases (p == x) (is_in p xs) there) [ inl here ↦ or_left _ _ here | inr later ↦ in_later p x (xs ++ q ∷ []) (pushed_in p q xs later) ]

pub last_in : (q : ℕ) (xs : List ℕ) → is_in q (xs ++ q ∷ []) ≡ true
last_in q [] = in_first q []
last_in q (x ∷ xs) = in_later q x (xs ++ q ∷ []) (last_in q xs)

without_by : (q x : ℕ) (xs : List ℕ) (p : ℕ) (b : Bool) → (q == x) ≡ b → (is_in p (without q xs) ≡ true → (is_in p xs ≡ true) × (p ≡ q → ⊥)) → is_in p (cond (not b) (x ∷ without q xs) (without q xs)) ≡ true → (is_in p (x ∷ xs) ≡ true) × (p ≡ q → ⊥)
without_by q x xs p true is rest there = let later = rest there in (in_later p x xs later.0, later.1)
without_by q x xs p false is rest there =
    elim (or_cases (p == x) (is_in p (without q xs)) there) [
      | inl here ↦ (or_left _ _ here, λ same. eqb-false q x is (sym same ∙ eqb-true p x here))
      | inr later ↦ (let l = rest later in (in_later p x xs l.0, l.1))
    ]

-- a place of the list without another is one of the list, and another
pub in_without : (p q : ℕ) (xs : List ℕ) → is_in p (without q xs) ≡ true → (is_in p xs ≡ true) × (p ≡ q → ⊥)
in_without p q [] there = absurd (false≢true there)
in_without p q (x ∷ xs) there = without_by q x xs p (q == x) refl (in_without p q xs) there

stays_by : (q x : ℕ) (xs : List ℕ) (p : ℕ) (b : Bool) → (q == x) ≡ b → (p ≡ q → ⊥) → is_in p (x ∷ xs) ≡ true → (is_in p xs ≡ true → is_in p (without q xs) ≡ true) → is_in p (cond (not b) (x ∷ without q xs) (without q xs)) ≡ true
stays_by q x xs p true is other there rest =
    elim (or_cases (p == x) (is_in p xs) there) [ inl here ↦ absurd (other (eqb-true p x here ∙ sym (eqb-true q x is))) | inr later ↦ rest later ]
stays_by q x xs p false is other there rest =
    elim (or_cases (p == x) (is_in p xs) there) [ inl here ↦ or_left _ _ here | inr later ↦ in_later p x (without q xs) (rest later) ]

pub stays_without : (p q : ℕ) (xs : List ℕ) → (p ≡ q → ⊥) → is_in p xs ≡ true → is_in p (without q xs) ≡ true
stays_without p q [] other there = there
stays_without p q (x ∷ xs) other there = stays_by q x xs p (q == x) refl other there (stays_without p q xs other)

pub length_in : (p : ℕ) (xs : List ℕ) → is_in p xs ≡ true → 1 ≤ length xs
length_in p [] there = absurd (false≢true there)
length_in p (x ∷ xs) there = omega arith

-- ---- counts

pub times_same : (p : ℕ) → times_of p p ≡ 1
times_same p = ap (λ b. cond b 1 0) (eq-eqb p p refl)

pub times_other : (p q : ℕ) → (q ≡ p → ⊥) → times_of p q ≡ 0
times_other p q other = ap (λ b. cond b 1 0) (ne_eqb q p other)

-- a place of a list is counted
pub times_in : (p : ℕ) (xs : List ℕ) → is_in p xs ≡ true → 1 ≤ times p xs
times_in p [] there = absurd (false≢true there)
times_in p (x ∷ xs) there =
    elim (or_cases (p == x) (is_in p xs) there) [
      | inl here ↦ omega (arith, sum_by-cons (times_of p) x xs, ap (times_of p) (sym (eqb-true p x here)), times_same p)
      | inr later ↦ omega (arith, sum_by-cons (times_of p) x xs, times_in p xs later)
    ]

-- a place that isn't counted is none of the list
pub none_in : (p : ℕ) (xs : List ℕ) (b : Bool) → is_in p xs ≡ b → times p xs ≡ 0 → is_in p xs ≡ false
none_in p xs true there none = absurd (omega (arith, times_in p xs there, none))
none_in p xs false there none = there

-- a place that is counted is one of the list
pub counted_in : (p : ℕ) (xs : List ℕ) (b : Bool) → is_in p xs ≡ b → 1 ≤ times p xs → is_in p xs ≡ true
counted_in p xs true there some = there
counted_in p [] false there some = absurd (omega (arith, some))
counted_in p (x ∷ xs) false there some =
    let parts = or_parts (p == x) (is_in p xs) there in
    absurd (false≢true (sym parts.1 ∙ counted_in p xs (is_in p xs) refl (omega (arith, some, sum_by-cons (times_of p) x xs, times_other p x (λ same. eqb-false p x parts.0 (sym same))))))

-- the counts of a longer list
pub times_pushed : (p q : ℕ) (xs : List ℕ) → times p (xs ++ q ∷ []) ≡ times p xs + times_of p q
times_pushed p q xs = sum_by_push (times_of p) xs q

without_other_by : (k q x : ℕ) (xs : List ℕ) (b : Bool) → (q == x) ≡ b → (k ≡ q → ⊥) → times k (without q xs) ≡ times k xs → times k (cond (not b) (x ∷ without q xs) (without q xs)) ≡ times k (x ∷ xs)
without_other_by k q x xs true is other rest = omega (arith, rest, sum_by-cons (times_of k) x xs, times_other k x (λ same. other (sym same ∙ sym (eqb-true q x is))))
without_other_by k q x xs false is other rest = omega (arith, rest, sum_by-cons (times_of k) x xs, sum_by-cons (times_of k) x (without q xs))

-- the counts of other places in a list without one
pub times_without : (k q : ℕ) (xs : List ℕ) → (k ≡ q → ⊥) → times k (without q xs) ≡ times k xs
times_without k q [] other = refl
times_without k q (x ∷ xs) other = without_other_by k q x xs (q == x) refl other (times_without k q xs other)

without_same_by : (q x : ℕ) (xs : List ℕ) (b : Bool) → (q == x) ≡ b → times q (without q xs) ≡ 0 → times q (cond (not b) (x ∷ without q xs) (without q xs)) ≡ 0
without_same_by q x xs true is rest = rest
without_same_by q x xs false is rest = omega (arith, rest, sum_by-cons (times_of q) x (without q xs), times_other q x (λ same. eqb-false q x is (sym same)))

-- a place that is taken out isn't counted any more
pub times_gone : (q : ℕ) (xs : List ℕ) → times q (without q xs) ≡ 0
times_gone q [] = refl
times_gone q (x ∷ xs) = without_same_by q x xs (q == x) refl (times_gone q xs)

length_by : (q x : ℕ) (xs : List ℕ) (b : Bool) → (q == x) ≡ b → length (without q xs) + times q xs ≡ length xs → length (cond (not b) (x ∷ without q xs) (without q xs)) + times q (x ∷ xs) ≡ suc (length xs)
length_by q x xs true is rest = omega (arith, rest, sum_by-cons (times_of q) x xs, ap (times_of q) (sym (eqb-true q x is)), times_same q)
length_by q x xs false is rest = omega (arith, rest, sum_by-cons (times_of q) x xs, times_other q x (λ same. eqb-false q x is (sym same)))

-- how long a list without a place is
pub length_without : (q : ℕ) (xs : List ℕ) → length (without q xs) + times q xs ≡ length xs
length_without q [] = refl
length_without q (x ∷ xs) = length_by q x xs (q == x) refl (length_without q xs)

-- ---- ranges

range_without : (p a n : ℕ) → (p < a) ⊎ (a + n ≤ p) → times p (range_with_len a n) ≡ 0
range_without p a zero out = refl
range_without p a (suc n) (inl below) = omega (arith, sum_by-cons (times_of p) a (range_with_len (a + 1) n), times_other p a (omega arith), range_without p (a + 1) n (inl (omega arith)))
range_without p a (suc n) (inr above) = omega (arith, sum_by-cons (times_of p) a (range_with_len (a + 1) n), times_other p a (omega arith), range_without p (a + 1) n (inr (omega arith)))

range_with : (p a n : ℕ) → a ≤ p → p < a + n → (a ≡ p) ⊎ (a ≢ p) → times p (range_with_len a n) ≡ 1
range_with p a zero from below is = absurd (omega (arith, from, below))
range_with p a (suc n) from below (inl same) =
    omega (arith, sum_by-cons (times_of p) a (range_with_len (a + 1) n), ap (times_of p) same, times_same p, range_without p (a + 1) n (inl (omega (arith, same))))
range_with p a (suc n) from below (inr other) =
    omega (arith, sum_by-cons (times_of p) a (range_with_len (a + 1) n), times_other p a other, range_with p (a + 1) n (omega arith) (omega arith) (cases_eq (a + 1) p))

-- each number below n stands once among those below n
pub times_below : (p n : ℕ) → (p < n) ⊎ (n ≤ p) → times p (range_with_len 0 n) ≡ once_below p n
times_below p n (inl below) = range_with p 0 n (omega arith) (omega arith) (cases_eq 0 p) ∙ sym (ap (λ b. cond b 1 0) (lt-ltb p n below))
times_below p n (inr above) = range_without p 0 n (inr (omega arith)) ∙ sym (ap (λ b. cond b 1 0) (le-ltb p n above))
