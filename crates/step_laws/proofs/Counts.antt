-- Counts and sums over lists: of lists joined end to end, of numbers below a bound, and of equal terms.
use Rattle.std.proofs.Common.{◌≡◌, ℕ, zero, suc, ◌+◌, ◌≤◌, Bool, true, false, List, [], ◌∷◌, ◌++◌, Option, Some, cond, refl, sym, ◌∙◌, ap, subst, arith}
use Rattle.std.specs.Prelude.{◌&&◌, ◌||◌, nat_lt, nat_le, flat_map, count_by, sum_by, filter, find, is_some}
use Rattle.std.specs.List.{list_all, list_any, range_with_len}
use Rattle.std.proofs.lemmas.Bool.{and_parts, and_from, cond-true, false≢true}
use Rattle.std.proofs.lemmas.Bool.Decides.{nat_tests}
use Rattle.std.proofs.lemmas.List.Sums.{sum_by-cons, sum_by-append}
use Rattle.std.proofs.lemmas.Option.{none-some}
use Rattle.cxl_message.specs.Lists.{below}

-- 1 where it holds, else 0
abbrev pub counted : Bool → ℕ
counted b = cond b 1 0

-- P of each element
abbrev pub Each : {X : Type 0} → (X → Type 0) → List X → Type 0
Each P [] = Unit {0}
Each P (x ∷ xs) = P x × Each P xs

pub each_holds : {X : Type 0} (P : X → Type 0) → ((x : X) → P x) → (xs : List X) → Each P xs
each_holds P h [] = tt
each_holds P h (x ∷ xs) = (h x, each_holds P h xs)

pub each_weaker : {X : Type 0} (P Q : X → Type 0) → ((x : X) → P x → Q x) → (xs : List X) → Each P xs → Each Q xs
each_weaker P Q h [] e = tt
each_weaker P Q h (x ∷ xs) e = (h x e.0, each_weaker P Q h xs e.1)

pub each_both : {X : Type 0} (P Q R : X → Type 0) → ((x : X) → P x → Q x → R x) → (xs : List X) → Each P xs → Each Q xs → Each R xs
each_both P Q R h [] e f = tt
each_both P Q R h (x ∷ xs) e f = (h x e.0 f.0, each_both P Q R h xs e.1 f.1)

pub each_append : {X : Type 0} (P : X → Type 0) (xs ys : List X) → Each P xs → Each P ys → Each P (xs ++ ys)
each_append P [] ys e f = f
each_append P (x ∷ xs) ys e f = (e.0, each_append P xs ys e.1 f)

-- what a filter keeps
pub each_filter : {X : Type 0} (P : X → Type 0) (p : X → Bool) (xs : List X) → Each P xs → Each P (filter p xs)
each_filter P p [] e = tt
each_filter P p (x ∷ xs) e = elim (p x) as (λ b. Each P (cond b (x ∷ filter p xs) (filter p xs))) [
  | true ↦
      (e.0, each_filter P p xs e.1)
  | false ↦ each_filter P p xs e.1
]

-- an element that a find gives passes, and is one of the list
find-step :
    {X : Type 0} (P : X → Type 0) (p : X → Bool) (y x : X) (found : Option X) (b : Bool) → p y ≡ b → cond b (Some y) found ≡ Some x → P y
    → (found ≡ Some x → P x × (p x ≡ true)) → P x × (p x ≡ true)
find-step P p y x found true is k here later = let same : y ≡ x = cc in (subst P same here, subst (λ z. p z ≡ true) same is)
find-step P p y x found false is k here later = later k

pub each_find : {X : Type 0} (P : X → Type 0) (p : X → Bool) (xs : List X) → Each P xs → (x : X) → find p xs ≡ Some x → P x × (p x ≡ true)
each_find P p [] e x h = absurd (none-some x h)
each_find P p (y ∷ ys) e x h = find-step P p y x (find p ys) (p y) refl h e.0 (each_find P p ys e.1 x)

pub find_passes : {X : Type 0} (p : X → Bool) (xs : List X) (x : X) → find p xs ≡ Some x → p x ≡ true
find_passes p xs x h = (each_find (λ y. Unit {0}) p xs (each_holds (λ y. Unit {0}) (λ y. tt) xs) x h).1

-- a sum over lists joined end to end
pub sum_by-flat_map : {X Y : Type 0} (f : Y → ℕ) (h : X → List Y) (xs : List X) → sum_by f (flat_map h xs) ≡ sum_by (λ x. sum_by f (h x)) xs
sum_by-flat_map f h [] = refl
sum_by-flat_map f h (x ∷ xs) = sum_by-append f (h x) (flat_map h xs) ∙
    (ap (λ n. sum_by f (h x) + n) (sum_by-flat_map f h xs) ∙ sym (sum_by-cons (λ x. sum_by f (h x)) x xs))

-- sums of equal terms
pub sum_by-same : {X : Type 0} (f g : X → ℕ) (xs : List X) → Each (λ x. f x ≡ g x) xs → sum_by f xs ≡ sum_by g xs
sum_by-same f g [] h = refl
sum_by-same f g (x ∷ xs) h = rw (sum_by-cons f x xs, sum_by-cons g x xs, h.0, sum_by-same f g xs h.1)

-- a sum of zeros
pub sum_by-zeros : {X : Type 0} (f : X → ℕ) → ((x : X) → f x ≡ 0) → (xs : List X) → sum_by f xs ≡ 0
sum_by-zeros f h [] = refl
sum_by-zeros f h (x ∷ xs) = rw (sum_by-cons f x xs, h x, sum_by-zeros f h xs)

-- a sum over the numbers from a on, of which one at most counts
range-none : (a x fx : ℕ) → 0 ≡ cond (nat_le a x && nat_lt x (a + 0)) fx 0
range-none a x fx = grind (arith, nat_tests)

range-step :
    (a x n fa fx : ℕ) → (a ≡ x → fa ≡ fx) → ((a ≡ x → ⊥) → fa ≡ 0)
    → fa + cond (nat_le (a + 1) x && nat_lt x (a + 1 + n)) fx 0 ≡ cond (nat_le a x && nat_lt x (a + suc n)) fx 0
range-step a x n fa fx same other = grind (arith, nat_tests)

sum_by-range :
    (f : ℕ → ℕ) (x : ℕ) → ((k : ℕ) → (k ≡ x → ⊥) → f k ≡ 0) → (a n : ℕ) → sum_by f (range_with_len a n) ≡ cond (nat_le a x && nat_lt x (a + n)) (f x) 0
sum_by-range f x h a zero = range-none a x (f x)
sum_by-range f x h a (suc n) = rw (sum_by-cons f a (range_with_len (a + 1) n), sum_by-range f x h (a + 1) n) (range-step a x n (f a) (f x) (ap f) (h a))

below-all : (n x fx : ℕ) → cond (nat_le 0 x && nat_lt x (0 + n)) fx 0 ≡ cond (nat_lt x n) fx 0
below-all n x fx = grind (arith, nat_tests)

-- a sum over the numbers below n, of which one at most counts
pub sum_by-below : (f : ℕ → ℕ) (x n : ℕ) → ((k : ℕ) → (k ≡ x → ⊥) → f k ≡ 0) → sum_by f (below n) ≡ cond (nat_lt x n) (f x) 0
sum_by-below f x n h = sum_by-range f x h 0 n ∙ below-all n x (f x)

-- a count at one more element, and at one alone
pub count_by-cons : {X : Type 0} (p : X → Bool) (x : X) (xs : List X) → count_by p (x ∷ xs) ≡ cond (p x) 1 0 + count_by p xs
count_by-cons p x xs = sum_by-cons (λ y. cond (p y) 1 0) x xs

pub count_by-one : {X : Type 0} (p : X → Bool) (x : X) → count_by p (x ∷ []) ≡ cond (p x) 1 0
count_by-one p x = rw count_by-cons (omega arith)

pub count_by-append : {X : Type 0} (p : X → Bool) (xs ys : List X) → count_by p (xs ++ ys) ≡ count_by p xs + count_by p ys
count_by-append p xs ys = sum_by-append (λ y. cond (p y) 1 0) xs ys

pub count_by-flat_map : {X Y : Type 0} (p : Y → Bool) (h : X → List Y) (xs : List X) → count_by p (flat_map h xs) ≡ sum_by (λ x. count_by p (h x)) xs
count_by-flat_map p h xs = sum_by-flat_map (λ y. cond (p y) 1 0) h xs

-- nothing passes: the count is zero, and nothing is found
passes-step : (b c : Bool) (n : ℕ) → b ≡ false → n ≡ 0 → cond b 1 0 + n ≡ 0
passes-step b c n e f = rw (e, f)

pub count_by-none : {X : Type 0} (p : X → Bool) (xs : List X) → Each (λ x. p x ≡ false) xs → count_by p xs ≡ 0
count_by-none p [] h = refl
count_by-none p (x ∷ xs) h = count_by-cons p x xs ∙ passes-step (p x) false (count_by p xs) h.0 (count_by-none p xs h.1)

none-step : (b : Bool) (n : ℕ) → cond b 1 0 + n ≡ 0 → (b ≡ false) × (n ≡ 0)
none-step true n h = absurd (omega arith)
none-step false n h = (refl, omega arith)

pub none_from_count : {X : Type 0} (p : X → Bool) (xs : List X) → count_by p xs ≡ 0 → Each (λ x. p x ≡ false) xs
none_from_count p [] h = tt
none_from_count p (x ∷ xs) h =
    let parts = none-step (p x) (count_by p xs) (sym (count_by-cons p x xs) ∙ h) in
    (parts.0, none_from_count p xs parts.1)

-- where at most one element passes, it is the one that a find gives
alone-tail :
    {X : Type 0} (p : X → Bool) (x : X) (xs : List X) (b : Bool) → p x ≡ b → cond b 1 0 + count_by p xs ≤ 1 → Each (λ y. p y ≡ true → find p xs ≡ Some y) xs
    → Each (λ y. p y ≡ true → cond b (Some x) (find p xs) ≡ Some y) xs
alone-tail p x xs true is few later = each_weaker (λ y. p y ≡ false) _ (λ y no yes. absurd (false≢true (sym no ∙ yes))) xs (none_from_count p xs (omega arith))
alone-tail p x xs false is few later = later

few-step : (b : Bool) (n : ℕ) → cond b 1 0 + n ≤ 1 → n ≤ 1
few-step true n h = omega arith
few-step false n h = omega arith

pub find_alone : {X : Type 0} (p : X → Bool) (xs : List X) → count_by p xs ≤ 1 → Each (λ y. p y ≡ true → find p xs ≡ Some y) xs
find_alone p [] h = tt
find_alone p (x ∷ xs) h =
    let few = subst (λ n. n ≤ 1) (count_by-cons p x xs) h in
    (λ yes. cond-true (p x) _ _ yes, alone-tail p x xs (p x) refl few (find_alone p xs (few-step (p x) (count_by p xs) few)))

-- something is found just where some element passes
found-step :
    {X : Type 0} (b : Bool) (x : X) (found : Option X) (n : ℕ) → is_some found ≡ nat_le 1 n → is_some (cond b (Some x) found) ≡ nat_le 1 (cond b 1 0 + n)
found-step true x found n h = grind (arith, nat_tests)
found-step false x found n h = rw h (grind (arith, nat_tests))

pub find-is_some : {X : Type 0} (p : X → Bool) (xs : List X) → is_some (find p xs) ≡ nat_le 1 (count_by p xs)
find-is_some p [] = refl
find-is_some p (x ∷ xs) = found-step (p x) x (find p xs) (count_by p xs) (find-is_some p xs) ∙ ap (nat_le 1) (sym (count_by-cons p x xs))

any-step : (b c : Bool) (n : ℕ) → c ≡ nat_le 1 n → (b || c) ≡ nat_le 1 (cond b 1 0 + n)
any-step true c n h = grind (arith, nat_tests)
any-step false c n h = rw h (grind (arith, nat_tests))

pub list_any-count : {X : Type 0} (p : X → Bool) (xs : List X) → list_any p xs ≡ nat_le 1 (count_by p xs)
list_any-count p [] = refl
list_any-count p (x ∷ xs) = any-step (p x) (list_any p xs) (count_by p xs) (list_any-count p xs) ∙ ap (nat_le 1) (sym (count_by-cons p x xs))

-- a test of all elements, and P of each
pub each_from_all : {X : Type 0} (p : X → Bool) (xs : List X) → list_all p xs ≡ true → Each (λ x. p x ≡ true) xs
each_from_all p [] h = tt
each_from_all p (x ∷ xs) h = let parts = and_parts (p x) (list_all p xs) h in (parts.0, each_from_all p xs parts.1)

pub all_from_each : {X : Type 0} (p : X → Bool) (xs : List X) → Each (λ x. p x ≡ true) xs → list_all p xs ≡ true
all_from_each p [] h = refl
all_from_each p (x ∷ xs) h = and_from (p x) (list_all p xs) h.0 (all_from_each p xs h.1)

-- the count of what a filter keeps, where what is counted is kept as b says
kept-step : (s k b : Bool) (n m : ℕ) → (s ≡ true → k ≡ b) → n ≡ cond b m 0 → cond k (cond s 1 0 + n) n ≡ cond b (cond s 1 0 + m) 0
kept-step true k true n m h e = rw (h refl, e)
kept-step true k false n m h e = rw (h refl, e)
kept-step false true true n m h e = rw e
kept-step false true false n m h e = rw e
kept-step false false true n m h e = rw e (omega arith)
kept-step false false false n m h e = rw e

kept-cons :
    {X : Type 0} (p : X → Bool) (k : Bool) (x : X) (xs : List X) → count_by p (cond k (x ∷ xs) xs) ≡ cond k (cond (p x) 1 0 + count_by p xs) (count_by p xs)
kept-cons p true x xs = count_by-cons p x xs
kept-cons p false x xs = refl

pub count_by-filter :
    {X : Type 0} (p q : X → Bool) (b : Bool) → ((x : X) → p x ≡ true → q x ≡ b) → (xs : List X) → count_by p (filter q xs) ≡ cond b (count_by p xs) 0
count_by-filter p q true h [] = refl
count_by-filter p q false h [] = refl
count_by-filter p q b h (x ∷ xs) =
    kept-cons p (q x) x (filter q xs) ∙ (kept-step (p x) (q x) b (count_by p (filter q xs)) (count_by p xs) (h x) (count_by-filter p q b h xs) ∙ ap (λ n. cond b n 0)
    (sym (count_by-cons p x xs)))
