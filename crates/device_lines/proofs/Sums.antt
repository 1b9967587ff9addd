-- Tables with one place set, sums over them, and lists without the member that was found.
use Rattle.std.proofs.Common.{◌≡◌, ℕ, zero, suc, ◌+◌, ◌*◌, ◌<◌, ◌≤◌, Bool, true, false, List, [], ◌∷◌, ◌++◌, Option, Some, None, cond, length, map, get_or, sum_by, refl, ap, sym, ◌∙◌, arith}
use Rattle.std.specs.Prelude.{find, option_map, slice_get, slice_set, unwrap_or, ◌==◌}
use Rattle.std.proofs.lemmas.List.{length-set, map-set}
use Rattle.std.proofs.lemmas.List.Sums.{sum_by-cons, sum_by-set, sum_by_push}
use Rattle.std.proofs.lemmas.Option.{get_or_from_slice_get, none-some, slice_get_within}
use Rattle.device_record.specs.Tables.{changed_at, place_set}

some_inner : {X : Type 0} (x y : X) → Some x ≡ Some y → x ≡ y
some_inner x y same = cc

pub get_same : {X : Type 0} (xs : List X) (a : ℕ) (x : X) → a < length xs → slice_get (slice_set xs a x) a ≡ Some x
get_same [] a x low = absurd (omega arith)
get_same (y ∷ xs) zero x low = refl
get_same (y ∷ xs) (suc a) x low = get_same xs a x (omega arith)

pub get_other : {X : Type 0} (xs : List X) (a b : ℕ) (x : X) → (b ≡ a → ⊥) → slice_get (slice_set xs a x) b ≡ slice_get xs b
get_other [] a b x other = refl
get_other (y ∷ xs) zero zero x other = absurd (other refl)
get_other (y ∷ xs) zero (suc b) x other = refl
get_other (y ∷ xs) (suc a) zero x other = refl
get_other (y ∷ xs) (suc a) (suc b) x other = get_other xs a b x (λ same. other (ap suc same))

pub set_again : {X : Type 0} (xs : List X) (a : ℕ) (x : X) → slice_get xs a ≡ Some x → slice_set xs a x ≡ xs
set_again [] a x is = refl
set_again (y ∷ xs) zero x is = ap (λ z. z ∷ xs) (sym (some_inner y x is))
set_again (y ∷ xs) (suc a) x is = ap (λ l. y ∷ l) (set_again xs a x is)

pub mapped_get : {X Y : Type 0} (f : X → Y) (xs : List X) (k : ℕ) → slice_get (map f xs) k ≡ option_map f (slice_get xs k)
mapped_get f [] k = refl
mapped_get f (x ∷ xs) zero = refl
mapped_get f (x ∷ xs) (suc k) = mapped_get f xs k

-- what a place that is there gets by a change
pub changed_is : {X : Type 0} (k : ℕ) (change : X → X) (xs : List X) (x : X) → slice_get xs k ≡ Some x → changed_at k change xs ≡ slice_set xs k (change x)
changed_is {X} k change xs x is = ap {B = List X} (λ (o : Option X). place_set k (option_map change o) xs) is

-- a sum over a table with one place set
pub sum_set : {X : Type 0} (f : X → ℕ) (xs : List X) (k : ℕ) (x y : X) → slice_get xs k ≡ Some x → sum_by f (slice_set xs k y) + f x ≡ sum_by f xs + f y
sum_set f xs k x y is =
    let at : f (get_or xs k x) ≡ f x = ap f (get_or_from_slice_get xs k x x is) in
    omega (arith, at, sum_by-set f xs k y x (slice_get_within xs k x is))

-- the list without the first member that passes
abbrev pub without_by : {X : Type 0} → (X → Bool) → List X → List X
without_by p [] = []
without_by p (x ∷ xs) = cond (p x) xs (x ∷ without_by p xs)

sum_by_test : {X : Type 0} (f : X → ℕ) (p : X → Bool) (x w : X) (xs : List X) (b : Bool) → cond b (Some x) (find p xs) ≡ Some w → (find p xs ≡ Some w → sum_by f (without_by p xs) + f w ≡ sum_by f xs) → sum_by f (cond b xs (x ∷ without_by p xs)) + f w ≡ sum_by f (x ∷ xs)
sum_by_test f p x w xs true is rest = let same : f x ≡ f w = ap f (some_inner x w is) in omega (arith, same, sum_by-cons f x xs)
sum_by_test f p x w xs false is rest = omega (arith, rest is, sum_by-cons f x xs, sum_by-cons f x (without_by p xs))

-- a sum over a list without the member that was found
pub sum_without : {X : Type 0} (f : X → ℕ) (p : X → Bool) (w : X) (xs : List X) → find p xs ≡ Some w → sum_by f (without_by p xs) + f w ≡ sum_by f xs
sum_without f p w [] is = absurd (none-some w is)
sum_without f p w (x ∷ xs) is = sum_by_test f p x w xs (p x) is (sum_without f p w xs)

shorter_by : {X : Type 0} (p : X → Bool) (x : X) (xs : List X) (b : Bool) → length (without_by p xs) ≤ length xs → length (cond b xs (x ∷ without_by p xs)) ≤ suc (length xs)
shorter_by p x xs true rest = omega arith
shorter_by p x xs false rest = omega (arith, rest)

pub shorter : {X : Type 0} (p : X → Bool) (xs : List X) → length (without_by p xs) ≤ length xs
shorter p [] = omega arith
shorter p (x ∷ xs) = shorter_by p x xs (p x) (shorter p xs)

stays_by : {X : Type 0} (p : X → Bool) (x : X) (xs : List X) (b : Bool) → cond b (Some x) (find p xs) ≡ None → (find p xs ≡ None → without_by p xs ≡ xs) → cond b xs (x ∷ without_by p xs) ≡ x ∷ xs
stays_by p x xs true is rest = absurd (none-some x (sym is))
stays_by {X} p x xs false is rest = ap {B = List X} (λ l. x ∷ l) (rest is)

-- where no member passes nothing is taken out
pub all_stays : {X : Type 0} (p : X → Bool) (xs : List X) → find p xs ≡ None → without_by p xs ≡ xs
all_stays p [] is = refl
all_stays p (x ∷ xs) is = stays_by p x xs (p x) is (all_stays p xs)

-- what holds of each place bounds the sum
pub sum_bounded : {X : Type 0} (f : X → ℕ) (m : ℕ) (d : X) (xs : List X) → ((k : ℕ) → f (unwrap_or (slice_get xs k) d) ≤ m) → sum_by f xs ≤ length xs * m
sum_bounded f m d [] each = omega arith
sum_bounded f m d (x ∷ xs) each =
    let first : f x ≤ m = each 0 in
    let rest = sum_bounded f m d xs (λ k. each (suc k)) in
    let more : length (x ∷ xs) * m ≡ m + length xs * m = grind arith in
    omega (arith, first, rest, more, sum_by-cons f x xs)
