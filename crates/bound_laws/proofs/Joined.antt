-- How long lists are that are joined end to end, filtered, or picked one before the other.
use Rattle.std.proofs.Common.{ℕ, zero, suc, ◌+◌, ◌*◌, ◌<◌, ◌≤◌, Bool, true, false, List, [], ◌∷◌, length, Option, Some, None, cond, arith}
use Rattle.std.specs.Prelude.{filter, flat_map, option_to_list}
use Rattle.std.specs.List.{range_with_len}
use Rattle.std.proofs.lemmas.List.{length-append}
use Rattle.std.proofs.lemmas.List.Sums.{count_by-le-length, length-filter}
use Rattle.std.proofs.Math.Nat.{mul-le-mul_left, mul-suc}
use Rattle.cxl_message.specs.declared.events.Event.{Event}
use Rattle.cxl_message.specs.Lists.{below}
use Rattle.coherence_model.specs.Next.{or_else}
use Rattle.step_laws.proofs.Counts.{Each}

-- the same from a number on
each_above : (P : ℕ → Type 0) (a n : ℕ) → ((k : ℕ) → k < a + n → P k) → Each P (range_with_len a n)
each_above P a zero h = tt
each_above P a (suc n) h = (h a (omega arith), each_above P (a + 1) n (λ k low. h k (omega arith)))

-- what holds of each number below n holds of each in the list of them
pub each_below : (P : ℕ → Type 0) (n : ℕ) → ((k : ℕ) → k < n → P k) → Each P (below n)
each_below P n h = each_above P 0 n (λ k low. h k (omega arith))

-- lists of k members at most, joined
pub joined_short : {X Y : Type 0} (f : X → List Y) (k : ℕ) (xs : List X) → Each (λ x. length (f x) ≤ k) xs → length (flat_map f xs) ≤ k * length xs
joined_short f k [] h = omega arith
joined_short f k (x ∷ xs) h =
    let more = joined_short f k xs h.1 in
    let first = h.0 in
    let both = length-append (f x) (flat_map f xs) in
    let product = mul-suc k (length xs) in
    omega arith

-- so many lists of k members at most
pub joined_within : {X Y : Type 0} (f : X → List Y) (k n : ℕ) (xs : List X) → length xs ≤ n → Each (λ x. length (f x) ≤ k) xs → length (flat_map f xs) ≤ k * n
joined_within f k n xs few h =
    let short = joined_short f k xs h in
    let more : k * length xs ≤ k * n = mul-le-mul_left k few in
    omega (arith, short, more)

-- an option is one member at most
pub one_at_most : {X : Type 0} (o : Option X) → length (option_to_list o) ≤ 1
one_at_most None = omega arith
one_at_most (Some x) = omega arith

-- so is a list of one, or none
pub one_if_may : (b : Bool) (xs : List Event) → length xs ≤ 1 → length (cond b xs []) ≤ 1
one_if_may true xs h = h
one_if_may false xs h = omega arith

-- the first of two lists that isn't empty is no longer than both may be
pub or_else_short : (k : ℕ) (xs ys : List Event) → length xs ≤ k → length ys ≤ k → length (or_else xs ys) ≤ k
or_else_short k [] ys a b = b
or_else_short k (x ∷ xs) ys a b = a

-- what a filter keeps is no longer
pub filter_short : {X : Type 0} (p : X → Bool) (xs : List X) → length (filter p xs) ≤ length xs
filter_short p xs =
    let kept = length-filter p xs in
    let few = count_by-le-length p xs in
    omega (arith, kept, few)
