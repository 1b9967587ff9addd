-- Tables by number, `map f (below n)`: reading a place, setting one, one place more.
use Rattle.std.proofs.Common.{◌≡◌, ℕ, zero, suc, ◌+◌, ◌<◌, ◌≤◌, List, [], ◌∷◌, ◌++◌, map, Option, Some, None, refl, ap, sym, ◌∙◌, arith}
use Rattle.std.specs.Prelude.{option_map, slice_get, slice_set}
use Rattle.std.specs.List.{range_with_len}
use Rattle.cxl_message.specs.Lists.{below}
use Rattle.link_queues.specs.Links.{set_if}
use Rattle.link_queues.specs.Queues.{QueueRecord}

get_from : {X : Type 0} (f : ℕ → X) (a n k : ℕ) → k < n → slice_get (map f (range_with_len a n)) k ≡ Some (f (a + k))
get_from f a zero k h = absurd (omega arith)
get_from f a (suc n) zero h = let e : a ≡ a + 0 = omega arith in ap (λ j. Some (f j)) e
get_from f a (suc n) (suc k) h =
    let low : k < n = omega arith in
    let e : (a + 1) + k ≡ a + suc k = omega arith in
    get_from f (a + 1) n k low ∙ ap (λ j. Some (f j)) e

-- a place of a table
pub get_table : {X : Type 0} (f : ℕ → X) (n k : ℕ) → k < n → slice_get (map f (below n)) k ≡ Some (f k)
get_table f n k h = let e : 0 + k ≡ k = omega arith in get_from f 0 n k h ∙ ap (λ j. Some (f j)) e

same_above : {X : Type 0} (f g : ℕ → X) (a n : ℕ) → ((j : ℕ) → a ≤ j → j < a + n → f j ≡ g j) → map f (range_with_len a n) ≡ map g (range_with_len a n)
same_above f g a zero h = refl
same_above {X} f g a (suc n) h =
    let here : a ≤ a = omega arith in
    let low : a < a + suc n = omega arith in
    let more : (j : ℕ) → a + 1 ≤ j → j < (a + 1) + n → f j ≡ g j = λ j high less. h j (omega arith) (omega arith) in
    λ i. h a here low i ∷ same_above f g (a + 1) n more i

-- tables that agree at each place
pub same_table : {X : Type 0} (f g : ℕ → X) (n : ℕ) → ((j : ℕ) → j < n → f j ≡ g j) → map f (below n) ≡ map g (below n)
same_table f g n h = same_above f g 0 n (λ j high less. let low : j < n = omega arith in h j low)

set_from : {X : Type 0} (f g : ℕ → X) (a n k : ℕ) (v : X) → g (a + k) ≡ v → ((j : ℕ) → (j ≡ a + k → ⊥) → j < a + n → f j ≡ g j) → slice_set (map f (range_with_len a n)) k v ≡ map g (range_with_len a n)
set_from f g a zero k v at others = refl
set_from f g a (suc n) zero v at others =
    let e : a + 0 ≡ a = omega arith in
    let rest : (j : ℕ) → a + 1 ≤ j → j < (a + 1) + n → f j ≡ g j = λ j high less. others j (λ same. omega arith) (omega arith) in
    λ i. (sym at ∙ ap g e) i ∷ same_above f g (a + 1) n rest i
set_from f g a (suc n) (suc k) v at others =
    let e : a + suc k ≡ (a + 1) + k = omega arith in
    let other : a ≡ a + suc k → ⊥ = λ same. omega arith in
    let low : a < a + suc n = omega arith in
    let there : g ((a + 1) + k) ≡ v = ap g (sym e) ∙ at in
    let rest : (j : ℕ) → (j ≡ (a + 1) + k → ⊥) → j < (a + 1) + n → f j ≡ g j = λ j ne less. others j (λ same. ne (same ∙ e)) (omega arith) in
    λ i. others a other low i ∷ set_from f g (a + 1) n k v there rest i

-- a table with one place set
pub set_table : {X : Type 0} (f g : ℕ → X) (n k : ℕ) (v : X) → g k ≡ v → ((j : ℕ) → (j ≡ k → ⊥) → j < n → f j ≡ g j) → slice_set (map f (below n)) k v ≡ map g (below n)
set_table f g n k v at others =
    let e : 0 + k ≡ k = omega arith in
    set_from f g 0 n k v (ap g e ∙ at) (λ j ne less. let low : j < n = omega arith in others j (λ same. ne (same ∙ sym e)) low)

-- a table of queues with one place changed
pub change_table : (f g : ℕ → QueueRecord) (n k : ℕ) (change : QueueRecord → QueueRecord) → k < n → g k ≡ change (f k) → ((j : ℕ) → (j ≡ k → ⊥) → j < n → f j ≡ g j)
    → set_if k (option_map change (slice_get (map f (below n)) k)) (map f (below n)) ≡ map g (below n)
change_table f g n k change low at others =
    ap (λ o. set_if k (option_map change o) (map f (below n))) (get_table f n k low) ∙ set_table f g n k (change (f k)) at others

range_more : (a n : ℕ) → range_with_len a (suc n) ≡ range_with_len a n ++ (a + n) ∷ []
range_more a zero = let e : a ≡ a + 0 = omega arith in ap (λ k. k ∷ []) e
range_more a (suc n) =
    let e : (a + 1) + n ≡ a + suc n = omega arith in
    ap (λ l. a ∷ l) (range_more (a + 1) n ∙ ap (λ k. range_with_len (a + 1) n ++ k ∷ []) e)

-- the numbers below one more
pub below_one_more : (n : ℕ) → below (n + 1) ≡ below n ++ n ∷ []
below_one_more n =
    let e : n + 1 ≡ suc n = omega arith in
    let z : 0 + n ≡ n = omega arith in
    ap below e ∙ range_more 0 n ∙ ap (λ k. below n ++ k ∷ []) z

map-append : {X Y : Type 0} (f : X → Y) (xs ys : List X) → map f (xs ++ ys) ≡ map f xs ++ map f ys
map-append f [] ys = refl
map-append f (x ∷ xs) ys = ap (λ l. f x ∷ l) (map-append f xs ys)

-- a table with one place more
pub map_below_more : {X : Type 0} (f : ℕ → X) (n : ℕ) → map f (below (n + 1)) ≡ map f (below n) ++ f n ∷ []
map_below_more f n = ap (map f) (below_one_more n) ∙ map-append f (below n) (n ∷ [])
