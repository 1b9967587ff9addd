-- Lists of bytes that are joined over the hosts: what each has, and how many there are.
use Rattle.std.proofs.Common.{◌≡◌, ℕ, ◌+◌, ◌<◌, ◌≤◌, Bool, true, false, List, [], ◌∷◌, Option, Some, None, cond, count_by, length, suc, zero, refl, ◌∙◌, ap, arith}
use Rattle.std.specs.Prelude.{filter_map, flat_map, nat_le, sum_by, ◌==◌}
use Rattle.std.specs.List.{cons_option, list_all, range_with_len}
use Rattle.std.proofs.lemmas.Bool.{and_from, and_parts, leb-false, leb-true}
use Rattle.std.proofs.lemmas.List.Folds.{list_all-append}
use Rattle.std.proofs.lemmas.List.Sums.{sum_by-cons}
use Rattle.cxl_message.specs.declared.identifiers.Bytes64.{Bytes64}
use Rattle.cxl_message.specs.declared.messages.Message.{Message}
use Rattle.cxl_message.specs.Codes.{bytes_eq}
use Rattle.cxl_message.proofs.SameNames.{same-bytes_eq}
use Rattle.coherence_model.specs.ValueFacts.{written_bytes}
use Rattle.request_laws.proofs.Counts.{count_by-cons}
use Rattle.request_laws.proofs.Each.{Each}
use Rattle.listing_laws.proofs.WriteBackLines.{writes_line}
use Rattle.value_laws.proofs.Has.{Writes}

-- what each message passes by what is known of it
pub each_all : (P : Message → Type 0) (p : Message → Bool) → ((m : Message) → P m → p m ≡ true) → (ms : List Message) → Each P ms → list_all p ms ≡ true
each_all P p pass [] each = refl
each_all P p pass (m ∷ ms) each = and_from (p m) (list_all p ms) (pass m each.0) (each_all P p pass ms each.1)

-- ---- the bytes of MemWr

-- one more message, if it has bytes
written_by : (v : Bytes64) (o : Option Bytes64) (xs : List Bytes64) → ((b : Bytes64) → o ≡ Some b → b ≡ v) → list_all (λ x. bytes_eq x v) xs ≡ true → list_all (λ x. bytes_eq x v) (cons_option o xs) ≡ true
written_by v None xs has rest = rest
written_by v (Some b) xs has rest = and_from _ _ (same-bytes_eq b v (has b refl)) rest

-- the bytes of each MemWr of the line
pub written_all : (a : ℕ) (v : Bytes64) (ms : List Message) → Each (Writes a v) ms → list_all (λ x. bytes_eq x v) (filter_map (written_bytes a) ms) ≡ true
written_all a v [] each = refl
written_all a v (m ∷ ms) each = written_by v (written_bytes a m) (filter_map (written_bytes a) ms) each.0 (written_all a v ms each.1)

-- 1 where there are bytes
abbrev some_count : Option Bytes64 → ℕ
some_count None = 0
some_count (Some b) = 1

-- how many there are with one more
cons_length : (o : Option Bytes64) (xs : List Bytes64) → length (cons_option o xs) ≡ some_count o + length xs
cons_length None xs = omega arith
cons_length (Some b) xs = omega arith

-- a message counts where it is a MemWr of the line
written_one : (a : ℕ) (m : Message) → some_count (written_bytes a m) ≡ cond (writes_line a m) 1 0
written_one a (Message.Req _ _ _ _ _) = refl
written_one a (Message.MemWr _ _ _ line bytes) = by (line.0 == a)
  where
    by : (b : Bool) → some_count (cond b (Some bytes) None) ≡ cond b 1 0
    by true = refl
    by false = refl
written_one a (Message.BiConflict _) = refl
written_one a (Message.BiRsp _ _ _) = refl
written_one a (Message.Ndr _ _) = refl
written_one a (Message.MemData _ _) = refl
written_one a (Message.BiSnp _ _ _ _) = refl
written_one a (Message.Credit _) = refl

-- as many bytes as MemWr of the line
pub written_length : (a : ℕ) (ms : List Message) → length (filter_map (written_bytes a) ms) ≡ count_by (writes_line a) ms
written_length a [] = refl
written_length a (m ∷ ms) =
    let cons = cons_length (written_bytes a m) (filter_map (written_bytes a) ms) in
    let one = written_one a m in
    let rest = written_length a ms in
    let counts = count_by-cons (writes_line a) m ms in
    omega arith

-- ---- over the hosts

-- what each host has, joined
pub all_flat : (p : Bytes64 → Bool) (f : ℕ → List Bytes64) (xs : List ℕ) → list_all (λ h. list_all p (f h)) xs ≡ true → list_all p (flat_map f xs) ≡ true
all_flat p f [] h = refl
all_flat p f (x ∷ xs) h = let parts = and_parts (list_all p (f x)) _ h in list_all-append p (f x) (flat_map f xs) ∙ and_from _ _ parts.0 (all_flat p f xs parts.1)

-- sums of equal numbers
pub sum_same : (f g : ℕ → ℕ) (xs : List ℕ) → ((x : ℕ) → f x ≡ g x) → sum_by f xs ≡ sum_by g xs
sum_same f g [] same = refl
sum_same f g (x ∷ xs) same =
    let first = sum_by-cons f x xs in
    let second = sum_by-cons g x xs in
    let one = same x in
    let rest = sum_same f g xs same in
    omega arith

-- sums of zeros
sums_zero : (f g : ℕ → ℕ) (a n : ℕ) → ((k : ℕ) → a ≤ k → k < a + n → f k + g k ≡ 0) → sum_by f (range_with_len a n) + sum_by g (range_with_len a n) ≡ 0
sums_zero f g a zero none = refl
sums_zero f g a (suc n) none =
    let first = sum_by-cons f a (range_with_len (a + 1) n) in
    let second = sum_by-cons g a (range_with_len (a + 1) n) in
    let here = none a (omega arith) (omega arith) in
    let rest = sums_zero f g (a + 1) n (λ k least most. none k (omega arith) (omega arith)) in
    omega arith

-- where one at most counts, and others count nothing beside it, the sum is one at most
sums_few : (f g : ℕ → ℕ) (a n : ℕ) → ((k : ℕ) → a ≤ k → k < a + n → f k + g k ≤ 1) → ((h k : ℕ) → a ≤ h → h < a + n → a ≤ k → k < a + n → (h ≡ k → ⊥) → 1 ≤ f h + g h → f k + g k ≡ 0)
    → sum_by f (range_with_len a n) + sum_by g (range_with_len a n) ≤ 1
sums_few f g a zero few apart = omega arith
sums_few f g a (suc n) few apart = by (nat_le 1 (f a + g a)) refl (sums_few f g (a + 1) n (λ k least most. few k (omega arith) (omega arith)) (λ h k lh mh lk mk differ some. apart h k (omega arith) (omega arith) (omega arith) (omega arith) differ some))
  where
    by : (b : Bool) → nat_le 1 (f a + g a) ≡ b → sum_by f (range_with_len (a + 1) n) + sum_by g (range_with_len (a + 1) n) ≤ 1
        → sum_by f (a ∷ range_with_len (a + 1) n) + sum_by g (a ∷ range_with_len (a + 1) n) ≤ 1
    by true is rest =
        let first = sum_by-cons f a (range_with_len (a + 1) n) in
        let second = sum_by-cons g a (range_with_len (a + 1) n) in
        let some = leb-true 1 (f a + g a) is in
        let here = few a (omega arith) (omega arith) in
        let none = sums_zero f g (a + 1) n (λ k least most. apart a k (omega arith) (omega arith) (omega arith) (omega arith) (λ same. omega arith) some) in
        omega arith
    by false is rest =
        let first = sum_by-cons f a (range_with_len (a + 1) n) in
        let second = sum_by-cons g a (range_with_len (a + 1) n) in
        let zero_here = leb-false 1 (f a + g a) is in
        omega arith

-- two numbers whose sum is 0
zero_parts : (n m k : ℕ) → n ≡ m + k → n ≡ 0 → (m ≡ 0) × (k ≡ 0)
zero_parts n m k e h = (omega arith, omega arith)

-- a number at the beginning, or later
zero_by : (f : ℕ → ℕ) (a k : ℕ) → a ≤ k → f a ≡ 0 → (a + 1 ≤ k → f k ≡ 0) → (b : Bool) → nat_le k a ≡ b → f k ≡ 0
zero_by f a k least here later true is = let less = leb-true k a is in let same : k ≡ a = omega arith in ap f same ∙ here
zero_by f a k least here later false is = let more = leb-false k a is in later (omega arith)

-- where the sum is zero each number is
each_zero : (f : ℕ → ℕ) (a n : ℕ) → sum_by f (range_with_len a n) ≡ 0 → (k : ℕ) → a ≤ k → k < a + n → f k ≡ 0
each_zero f a zero none k least most = absurd (omega arith)
each_zero f a (suc n) none k least most =
    let parts = zero_parts _ (f a) (sum_by f (range_with_len (a + 1) n)) (sum_by-cons f a (range_with_len (a + 1) n)) none in
    zero_by f a k least parts.0 (λ more. each_zero f (a + 1) n parts.1 k more (omega arith)) (nat_le k a) refl

-- the same of the numbers below a bound
pub few_below : (f g : ℕ → ℕ) (n : ℕ) → ((k : ℕ) → k < n → f k + g k ≤ 1) → ((h k : ℕ) → h < n → k < n → (h ≡ k → ⊥) → 1 ≤ f h + g h → f k + g k ≡ 0) → sum_by f (range_with_len 0 n) + sum_by g (range_with_len 0 n) ≤ 1
few_below f g n few apart = sums_few f g 0 n (λ k least most. few k (omega arith)) (λ h k lh mh lk mk differ some. apart h k (omega arith) (omega arith) differ some)

-- where a sum below a bound is zero each number is
pub zero_below : (f : ℕ → ℕ) (n : ℕ) → sum_by f (range_with_len 0 n) ≡ 0 → (k : ℕ) → k < n → f k ≡ 0
zero_below f n none k less = each_zero f 0 n none k (omega arith) (omega arith)
