-- The order that a table has, before and after a place is put last or taken out.
use Rattle.std.proofs.Common.{inl, inr, ◌+◌, ◌++◌, ◌-◌, ◌<◌, ◌∙◌, ◌∷◌, ◌≡◌, ◌≤◌, ℕ, Bool, List, None, Option, Some, [], add-one, ap, arith, cond, false, get_or, length, length-append, refl, subst, suc, sym, true, zero}
use Rattle.std.specs.Prelude.{not, slice_get, ◌==◌, ◌||◌}
use Rattle.std.specs.List.{AllByRecursion, IsDistinct}
use Rattle.std.proofs.lemmas.Bool.{cond-false, cond-true, eq-eqb, eqb-false, eqb-true, false≢true, ne_eqb, or_cases, or_left, or_parts, or_right}
use Rattle.std.proofs.lemmas.Map.Steps.{length-le_from_distinct_below}
use Rattle.linked_order.specs.declared.links.Link.{Link}
use Rattle.linked_order.specs.Links.{IsChain, IsLinked, named, newer_at, older_at, put_last, renamed, taken_out, walk}
use Rattle.linked_order.specs.Orders.{AreBelow, IsAt, IsOnce, after, from_place, is_listed, left_from, without_place}
use Rattle.linked_order.proofs.Chains.{newer_length, same_length, without_none, chain_low, lengthened_name, put_last_is, taken_is, taken_out_is, walk_is}

second : (p q : Bool) → p ≡ false → (p || q) ≡ true → q ≡ true
second true q none some = absurd (false≢true (sym none))
second false q none some = some

-- ---- what is walked

-- walking gives the order
pub walked : (links : List Link) (oldest newest len : ℕ) (xs : List ℕ) → IsLinked links oldest newest len xs → walk len oldest links ≡ xs
walked links oldest newest len xs is = ap (λ n. walk n oldest links) (sym is.size) ∙ walk_is links 0 oldest xs newest is.chain

pub walked_is : (links : List Link) (oldest newest len : ℕ) (xs : List ℕ) → IsLinked links oldest newest len xs → IsLinked links oldest newest len (walk len oldest links)
walked_is links oldest newest len xs is = subst (λ l. IsLinked links oldest newest len l) (sym (walked links oldest newest len xs is)) is

-- ---- names fit

pub listed_fits : (links : List Link) (oldest newest len a : ℕ) (xs : List ℕ) → IsLinked links oldest newest len xs → is_listed a xs ≡ true → a < length links
listed_fits links oldest newest len a xs is there = chain_low links 0 oldest xs newest a is.chain there

newest_by : (links : List Link) (prev name : ℕ) (xs : List ℕ) (last : ℕ) → prev ≤ length links → IsChain links prev name xs last → last ≤ length links
newest_by links prev name [] last low chain = subst (λ n. n ≤ length links) (sym chain.1) low
newest_by links prev name (x ∷ xs) last low chain = newest_by links (suc x) (newer_at links x) xs last (omega (arith, chain.1)) chain.3

pub newest_fits : (links : List Link) (oldest newest len : ℕ) (xs : List ℕ) → IsLinked links oldest newest len xs → newest ≤ length links
newest_fits links oldest newest len xs is = newest_by links 0 oldest xs newest (omega arith) is.chain

name_by : (links : List Link) (prev name : ℕ) (xs : List ℕ) (last : ℕ) → IsChain links prev name xs last → name ≤ length links
name_by links prev name [] last chain = omega (arith, chain.0)
name_by links prev name (x ∷ xs) last chain = omega (arith, chain.0, chain.1)

newer_by : (links : List Link) (prev name a : ℕ) (xs : List ℕ) (last : ℕ) → IsChain links prev name xs last → is_listed a xs ≡ true → newer_at links a ≤ length links
newer_by links prev name a [] last chain there = absurd (false≢true there)
newer_by links prev name a (x ∷ xs) last chain there =
    elim (or_cases (a == x) (is_listed a xs) there) [
      | inl here ↦ subst (λ z. newer_at links z ≤ length links) (sym (eqb-true a x here)) (name_by links (suc x) (newer_at links x) xs last chain.3)
      | inr later ↦ newer_by links (suc x) (newer_at links x) a xs last chain.3 later
    ]

pub newer_fits : (links : List Link) (oldest newest len a : ℕ) (xs : List ℕ) → IsLinked links oldest newest len xs → is_listed a xs ≡ true → newer_at links a ≤ length links
newer_fits links oldest newest len a xs is there = newer_by links 0 oldest a xs newest is.chain there

older_by : (links : List Link) (prev name a : ℕ) (xs : List ℕ) (last : ℕ) → prev ≤ length links → IsChain links prev name xs last → is_listed a xs ≡ true → older_at links a ≤ length links
older_by links prev name a [] last low chain there = absurd (false≢true there)
older_by links prev name a (x ∷ xs) last low chain there =
    elim (or_cases (a == x) (is_listed a xs) there) [
      | inl here ↦ subst (λ z. older_at links z ≤ length links) (sym (eqb-true a x here)) (subst (λ n. n ≤ length links) (sym chain.2) low)
      | inr later ↦ older_by links (suc x) (newer_at links x) a xs last (omega (arith, chain.1)) chain.3 later
    ]

pub older_fits : (links : List Link) (oldest newest len a : ℕ) (xs : List ℕ) → IsLinked links oldest newest len xs → is_listed a xs ≡ true → older_at links a ≤ length links
older_fits links oldest newest len a xs is there = older_by links 0 oldest a xs newest (omega arith) is.chain there

-- ---- how many

below_by : (links : List Link) (prev name : ℕ) (xs : List ℕ) (last : ℕ) → IsChain links prev name xs last → AreBelow (length links) xs
below_by links prev name [] last chain = tt
below_by links prev name (x ∷ xs) last chain = (chain.1, below_by links (suc x) (newer_at links x) xs last chain.3)

pub places_fit : (links : List Link) (oldest newest len : ℕ) (xs : List ℕ) → IsLinked links oldest newest len xs → AreBelow (length links) xs
places_fit links oldest newest len xs is = below_by links 0 oldest xs newest is.chain

apart : (x : ℕ) (xs : List ℕ) → is_listed x xs ≡ false → AllByRecursion (λ y. (x == y) ≡ false) xs
apart x [] none = tt
apart x (y ∷ xs) none = let parts = or_parts (x == y) (is_listed x xs) none in (parts.0, apart x xs parts.1)

distinct : (xs : List ℕ) → IsOnce xs → IsDistinct (λ x y. x == y) xs
unfolding IsDistinct
distinct [] once = tt
distinct (x ∷ xs) once = (apart x xs once.0, distinct xs once.1)

member_low : (n q : ℕ) (xs : List ℕ) → AreBelow n xs → is_listed q xs ≡ true → q < n
member_low n q [] low there = absurd (false≢true there)
member_low n q (x ∷ xs) low there =
    elim (or_cases (q == x) (is_listed q xs) there) [
      | inl here ↦ subst (λ z. z < n) (sym (eqb-true q x here)) low.0
      | inr later ↦ member_low n q xs low.1 later
    ]

few_below : (n : ℕ) (xs : List ℕ) → AreBelow n xs → IsOnce xs → length xs ≤ n
few_below n xs low once = length-le_from_distinct_below xs n (distinct xs once) (λ q there. member_low n q xs low there)

-- ---- a place more

listed_added : (a x : ℕ) (xs : List ℕ) → is_listed x xs ≡ false → (x ≡ a → ⊥) → is_listed x (xs ++ a ∷ []) ≡ false
listed_added a x [] none other = λ i. ne_eqb x a other i || false
listed_added a x (y ∷ xs) none other = let parts = or_parts (x == y) (is_listed x xs) none in λ i. parts.0 i || listed_added a x xs parts.1 other i

once_added : (a : ℕ) (xs : List ℕ) → IsOnce xs → is_listed a xs ≡ false → IsOnce (xs ++ a ∷ [])
once_added a [] once none = (refl, tt)
once_added a (x ∷ xs) once none =
    let parts = or_parts (a == x) (is_listed a xs) none in (listed_added a x xs once.0 (λ same. eqb-false a x parts.0 (sym same)), once_added a xs once.1 parts.1)

below_added : (n a : ℕ) (xs : List ℕ) → AreBelow n xs → a < n → AreBelow n (xs ++ a ∷ [])
below_added n a [] low here = (here, tt)
below_added n a (x ∷ xs) low here = (low.0, below_added n a xs low.1 here)

-- one place more is one of the table's still
pub len_fits : (links : List Link) (oldest newest len a : ℕ) (xs : List ℕ) → IsLinked links oldest newest len xs → is_listed a xs ≡ false → a < length links → len + 1 ≤ length links
len_fits links oldest newest len a xs is none low =
    omega (
      arith,
      few_below (length links) (xs ++ a ∷ []) (below_added (length links) a xs (places_fit links oldest newest len xs is) low) (once_added a xs is.once none),
      length-append xs (a ∷ []),
      is.size,
    )

first_named : (links : List Link) (oldest newest a : ℕ) (xs : List ℕ) → IsChain links 0 oldest xs newest → renamed oldest 0 (a + 1) ≡ lengthened_name xs oldest a
first_named links oldest newest a [] chain = cond-true (oldest == 0) (a + 1) oldest (eq-eqb oldest 0 chain.0) ∙ add-one a
first_named links oldest newest a (x ∷ xs) chain = cond-false (oldest == 0) (a + 1) oldest (ne_eqb oldest 0 (λ same. absurd (omega (arith, sym same ∙ chain.0))))

pub linked_added : (links later : List Link) (oldest newest len first a : ℕ) (xs : List ℕ) → IsLinked links oldest newest len xs → is_listed a xs ≡ false → a < length links
    → later ≡ put_last a newest links → first ≡ renamed oldest 0 (a + 1) → IsLinked later first (a + 1) (len + 1) (xs ++ a ∷ [])
linked_added links later oldest newest len first a xs is none low then_is first_is =
    let made = put_last_is links a oldest xs newest is.once none low is.chain in
    let name : first ≡ lengthened_name xs oldest a = first_is ∙ first_named links oldest newest a xs is.chain in
    let same : length later ≡ length links = ap length then_is ∙ same_length _ a _ ∙ newer_length links newest (suc a) in
    record {
      chain = subst (λ l. IsChain l 0 first (xs ++ a ∷ []) (a + 1)) (sym then_is) (subst (λ n. IsChain (put_last a newest links) 0 n (xs ++ a ∷ []) (a + 1)) (sym name) (subst (λ n. IsChain (put_last a newest links) 0 (lengthened_name xs oldest a) (xs ++ a ∷ []) n) (sym (add-one a)) made));
      size = omega (arith, length-append xs (a ∷ []), is.size);
      once = once_added a xs is.once none;
      few = omega (arith, same, is.few);
    }

-- ---- a place less

listed_unless : (a x y : ℕ) (xs : List ℕ) → (x == y) ≡ false → is_listed x (without_place a xs) ≡ false → (b : Bool) → is_listed x (cond (not b) (y ∷ without_place a xs) (without_place a xs)) ≡ false
listed_unless a x y xs other rest true = rest
listed_unless a x y xs other rest false = λ i. other i || rest i

once_unless : (a x : ℕ) (xs : List ℕ) → is_listed x (without_place a xs) ≡ false → IsOnce (without_place a xs) → (b : Bool) → IsOnce (cond (not b) (x ∷ without_place a xs) (without_place a xs))
once_unless a x xs none rest true = rest
once_unless a x xs none rest false = (none, rest)

listed_without : (a x : ℕ) (xs : List ℕ) → is_listed x xs ≡ false → is_listed x (without_place a xs) ≡ false
listed_without a x [] none = refl
listed_without a x (y ∷ xs) none = let parts = or_parts (x == y) (is_listed x xs) none in listed_unless a x y xs parts.0 (listed_without a x xs parts.1) (a == y)

once_without : (a : ℕ) (xs : List ℕ) → IsOnce xs → IsOnce (without_place a xs)
once_without a [] once = tt
once_without a (x ∷ xs) once = once_unless a x xs (listed_without a x xs once.0) (once_without a xs once.1) (a == x)

size_by : (a x : ℕ) (xs : List ℕ) → IsOnce (x ∷ xs) → is_listed a (x ∷ xs) ≡ true → (b : Bool) → (a == x) ≡ b → (b ≡ false → length (without_place a xs) + 1 ≡ length xs)
    → length (cond (not b) (x ∷ without_place a xs) (without_place a xs)) + 1 ≡ length (x ∷ xs)
size_by a x xs once there true is rest = omega (arith, ap length (without_none a xs (subst (λ z. is_listed z xs ≡ false) (sym (eqb-true a x is)) once.0)))
size_by a x xs once there false is rest = omega (arith, rest refl)

size_without : (a : ℕ) (xs : List ℕ) → IsOnce xs → is_listed a xs ≡ true → length (without_place a xs) + 1 ≡ length xs
size_without a [] once there = absurd (false≢true there)
size_without a (x ∷ xs) once there = size_by a x xs once there (a == x) refl (λ other. size_without a xs once.1 (second (a == x) (is_listed a xs) other there))

above_zero : (a b : ℕ) (xs : List ℕ) → is_listed b xs ≡ true → 0 ≡ suc a → ⊥
above_zero a b xs there same = omega arith

low_name : (n name w : ℕ) → name ≤ n → name ≡ suc w → w < n
low_name n name w low is = omega (arith, low, is)

pub linked_taken : (links later : List Link) (oldest newest len first last a : ℕ) (xs : List ℕ) → IsLinked links oldest newest len xs → is_listed a xs ≡ true
    → later ≡ taken_out a links → first ≡ renamed oldest (a + 1) (newer_at links a) → last ≡ renamed newest (a + 1) (older_at links a) → IsLinked later first last (len - 1) (without_place a xs)
linked_taken links later oldest newest len first last a xs is there then_is first_is last_is =
    let takes = taken_out_is links a (λ w same. low_name (length links) (older_at links a) w (older_fits links oldest newest len a xs is there) same) (λ w same. low_name (length links) (newer_at links a) w (newer_fits links oldest newest len a xs is there) same) in
    let made = taken_is links (taken_out a links) a 0 oldest xs newest takes is.once (λ z zs. above_zero z z xs zs) there is.chain in
    let front : first ≡ cond (oldest == suc a) (newer_at links a) oldest = first_is ∙ ap (λ n. cond (oldest == n) (newer_at links a) oldest) (add-one a) in
    let back : last ≡ cond (newest == suc a) (older_at links a) newest = last_is ∙ ap (λ n. cond (newest == n) (older_at links a) newest) (add-one a) in
    record {
      chain = subst (λ l. IsChain l 0 first (without_place a xs) last) (sym then_is) (subst (λ n. IsChain (taken_out a links) 0 n (without_place a xs) last) (sym front) (subst (λ n. IsChain (taken_out a links) 0 (cond (oldest == suc a) (newer_at links a) oldest) (without_place a xs) n) (sym back) made));
      size = omega (arith, size_without a xs is.once there, is.size);
      once = once_without a xs is.once;
      few = omega (arith, ap length then_is, takes.same, is.few);
    }

pub len_positive : (links : List Link) (oldest newest len a : ℕ) (xs : List ℕ) → IsLinked links oldest newest len xs → is_listed a xs ≡ true → 0 < len
len_positive links oldest newest len a xs is there = omega (arith, size_without a xs is.once there, is.size)

-- ---- the next place

-- the newer name that is read of a place of the table
pub newer_read : (links : List Link) (a : ℕ) (other : Link) → a < length links → (get_or links a other).newer ≡ newer_at links a
newer_read [] a other low = absurd (omega arith)
newer_read (l ∷ links) zero other low = refl
newer_read (l ∷ links) (suc a) other low = newer_read links a other (omega arith)

named_first : (links : List Link) (prev name : ℕ) (xs : List ℕ) (last : ℕ) → IsChain links prev name xs last → named name ≡ slice_get xs 0
named_first links prev name [] last chain = ap named chain.0
named_first links prev name (x ∷ xs) last chain = ap named chain.0

next_by : (links : List Link) (prev name a x : ℕ) (xs : List ℕ) (last : ℕ) → IsChain links prev name (x ∷ xs) last → (b : Bool) → (a == x) ≡ b → (b ≡ false → named (newer_at links a) ≡ after a xs)
    → named (newer_at links a) ≡ cond b (slice_get xs 0) (after a xs)
next_by links prev name a x xs last chain true is rest = ap (λ z. named (newer_at links z)) (eqb-true a x is) ∙ named_first links (suc x) (newer_at links x) xs last chain.3
next_by links prev name a x xs last chain false is rest = rest refl

next_is : (links : List Link) (prev name a : ℕ) (xs : List ℕ) (last : ℕ) → IsChain links prev name xs last → is_listed a xs ≡ true → named (newer_at links a) ≡ after a xs
next_is links prev name a [] last chain there = absurd (false≢true there)
next_is links prev name a (x ∷ xs) last chain there =
    next_by links prev name a x xs last chain (a == x) refl (λ other. next_is links (suc x) (newer_at links x) a xs last chain.3 (second (a == x) (is_listed a xs) other there))

pub next_named : (links : List Link) (oldest newest len a : ℕ) (xs : List ℕ) → IsLinked links oldest newest len xs → is_listed a xs ≡ true → named (newer_at links a) ≡ after a xs
next_named links oldest newest len a xs is there = next_is links 0 oldest a xs newest is.chain there

-- ---- walking by places

pub at_first : (xs : List ℕ) → IsAt (slice_get xs 0) xs
at_first [] = tt
at_first (x ∷ xs) = or_left _ _ (eq-eqb x x refl)

from_first : (x : ℕ) (xs : List ℕ) → from_place x (x ∷ xs) ≡ x ∷ xs
from_first x xs = cond-true (x == x) (x ∷ xs) (from_place x xs) (eq-eqb x x refl)

pub left_first : (xs : List ℕ) → left_from (slice_get xs 0) xs ≡ xs
left_first [] = refl
left_first (x ∷ xs) = from_first x xs

at_later : (x : ℕ) (o : Option ℕ) (xs : List ℕ) → IsAt o xs → IsAt o (x ∷ xs)
at_later x None xs at = tt
at_later x (Some p) xs at = or_right _ _ at

at_by : (p x : ℕ) (xs : List ℕ) (b : Bool) → IsAt (after p xs) xs → IsAt (cond b (slice_get xs 0) (after p xs)) (x ∷ xs)
at_by p x xs true rest = at_later x (slice_get xs 0) xs (at_first xs)
at_by p x xs false rest = at_later x (after p xs) xs rest

pub at_next : (p : ℕ) (xs : List ℕ) → IsAt (after p xs) xs
at_next p [] = tt
at_next p (x ∷ xs) = at_by p x xs (p == x) (at_next p xs)

left_later : (x : ℕ) (o : Option ℕ) (xs : List ℕ) → is_listed x xs ≡ false → IsAt o xs → left_from o (x ∷ xs) ≡ left_from o xs
left_later x None xs none at = refl
left_later x (Some p) xs none at = cond-false (p == x) (x ∷ xs) (from_place p xs) (ne_eqb p x (λ same. false≢true (sym none ∙ subst (λ z. is_listed z xs ≡ true) same at)))

left_by : (p x : ℕ) (xs : List ℕ) (b : Bool) → (p == x) ≡ b → is_listed x xs ≡ false → (b ≡ false → from_place p xs ≡ p ∷ left_from (after p xs) xs)
    → cond b (x ∷ xs) (from_place p xs) ≡ p ∷ left_from (cond b (slice_get xs 0) (after p xs)) (x ∷ xs)
left_by p x xs true is none rest = λ i. sym (eqb-true p x is) i ∷ sym (left_later x (slice_get xs 0) xs none (at_first xs) ∙ left_first xs) i
left_by p x xs false is none rest = rest refl ∙ ap (λ l. p ∷ l) (sym (left_later x (after p xs) xs none (at_next p xs)))

pub left_next : (p : ℕ) (xs : List ℕ) → IsOnce xs → is_listed p xs ≡ true → from_place p xs ≡ p ∷ left_from (after p xs) xs
left_next p [] once there = absurd (false≢true there)
left_next p (x ∷ xs) once there = left_by p x xs (p == x) refl once.0 (λ other. left_next p xs once.1 (second (p == x) (is_listed p xs) other there))
