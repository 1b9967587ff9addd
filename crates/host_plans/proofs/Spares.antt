-- The lowest free Tags, and the list of the free ones.
use Rattle.std.proofs.Common.{Bool, List, None, Option, Some, [], ap, arith, cond, false, refl, suc, sym, true, zero, ℕ, ◌+◌, ◌-◌, ◌<◌, ◌∙◌, ◌∷◌, ◌≡◌}
use Rattle.std.specs.Prelude.{filter, find, option_and_then, option_map, slice_get}
use Rattle.std.specs.List.{range_with_len}
use Rattle.cxl_message.specs.declared.identifiers.Tag.{Tag}
use Rattle.coherence_model.specs.Transactions.{Transaction}
use Rattle.host_plans.specs.Plans.{first_spare, is_spare, tag_named}

same_some : (m n : ℕ) → Some m ≡ Some n → m ≡ n
same_some m n same = cc

found_by : (from len t : ℕ) (rest : Option ℕ) (b : Bool) → cond b (Some from) rest ≡ Some t → (rest ≡ Some t → t < from + 1 + len) → t < from + suc len
found_by from len t rest true is later = omega (arith, same_some from t is)
found_by from len t rest false is later = omega (arith, later is)

-- what is found in a range lies below its end
found_below : (p : ℕ → Bool) (from len t : ℕ) → find p (range_with_len from len) ≡ Some t → t < from + len
found_below p from zero t is = absurd (cc)
found_below p from (suc len) t is = found_by from len t (find p (range_with_len (from + 1) len)) (p from) is (λ later. found_below p (from + 1) len t later)

abbrev tag_number : Option Tag → ℕ → ℕ
tag_number None n = n
tag_number (Some t) n = t.0

some_tag : (o : Option ℕ) (first : Tag) → Some first ≡ option_map tag_named o → o ≡ Some first.0
some_tag None first is = absurd (cc)
some_tag (Some n) first is = ap Some (sym (ap (λ (o : Option Tag). tag_number o n) is))

-- the first free Tag is one of the Tags
pub first_below : (opened : List (Option Transaction)) (conflicts : List Bool) (first : Tag) (tags : ℕ) → Some first ≡ option_map tag_named (first_spare opened conflicts tags) → first.0 < tags
first_below opened conflicts first tags is =
    omega (arith, found_below (is_spare opened conflicts) 0 (tags - 0) first.0 (some_tag (first_spare opened conflicts tags) first is))

first_by : (p : ℕ → Bool) (x : ℕ) (xs : List ℕ) (b : Bool) → find p xs ≡ slice_get (filter p xs) 0 → cond b (Some x) (find p xs) ≡ slice_get (cond b (x ∷ filter p xs) (filter p xs)) 0
first_by p x xs true rest = refl
first_by p x xs false rest = rest

-- the first that is found is the first that passes
pub find_first : (p : ℕ → Bool) (xs : List ℕ) → find p xs ≡ slice_get (filter p xs) 0
find_first p [] = refl
find_first p (x ∷ xs) = first_by p x xs (p x) (find_first p xs)

second_by : (p : ℕ → Bool) (from len n : ℕ) (b : Bool) → from + suc len ≡ n
    → option_and_then (λ t. find p (range_with_len (t + 1) (n - (t + 1)))) (find p (range_with_len (from + 1) len)) ≡ slice_get (filter p (range_with_len (from + 1) len)) 1
    → option_and_then (λ t. find p (range_with_len (t + 1) (n - (t + 1)))) (cond b (Some from) (find p (range_with_len (from + 1) len)))
    ≡ slice_get (cond b (from ∷ filter p (range_with_len (from + 1) len)) (filter p (range_with_len (from + 1) len))) 1
second_by p from len n true fits rest =
    let left : n - (from + 1) ≡ len = omega (arith, fits) in ap (λ m. find p (range_with_len (from + 1) m)) left ∙ find_first p (range_with_len (from + 1) len)
second_by p from len n false fits rest = rest

-- the next that is found after the first is the second that passes
pub find_second : (p : ℕ → Bool) (from len n : ℕ) → from + len ≡ n
    → option_and_then (λ t. find p (range_with_len (t + 1) (n - (t + 1)))) (find p (range_with_len from len)) ≡ slice_get (filter p (range_with_len from len)) 1
find_second p from zero n fits = refl
find_second p from (suc len) n fits = second_by p from len n (p from) fits (find_second p (from + 1) len n (omega (arith, fits)))
