-- Tables by number, `map f (below n)`: reading a place, setting one, searching.
use Rattle.std.proofs.Common.{◌≡◌, ℕ, zero, suc, ◌+◌, ◌<◌, ◌≤◌, Bool, true, false, cond, List, [], ◌∷◌, length, map, Option, Some, None, refl, ap, sym, ◌∙◌, arith}
use Rattle.std.specs.Prelude.{find, ◌==◌, ◌||◌, filter, nat_lt, not, position, slice_get, slice_set}
use Rattle.std.specs.List.{list_any, position_or_len, range_with_len}
use Rattle.std.proofs.lemmas.Option.{none-some}
use Rattle.request_laws.proofs.Below.{any_below}
use Rattle.request_laws.proofs.Options.{find_is_in}
use Rattle.host_record.specs.Tables.{set_all}
use Rattle.std.proofs.lemmas.Bool.{both_ways, cond-false, cond-true, eq-eqb, ne_eqb}
use Rattle.std.proofs.lemmas.Bool.Decides.{nat_tests}
use Rattle.cxl_message.specs.Lists.{below, is_in}

get_from : {X : Type 0} (f : ℕ → X) (a n k : ℕ) → k < n → slice_get (map f (range_with_len a n)) k ≡ Some (f (a + k))
get_from f a zero k h = absurd (omega arith)
get_from f a (suc n) zero h = let e : a ≡ a + 0 = omega arith in ap (λ j. Some (f j)) e
get_from f a (suc n) (suc k) h =
    let low : k < n = omega arith in
    let e : (a + 1) + k ≡ a + suc k = omega arith in
    get_from f (a + 1) n k low ∙ ap (λ j. Some (f j)) e

-- a place of a table
pub get_table : {X : Type 0} (f : ℕ → X) (n k : ℕ) → k < n → slice_get (map f (below n)) k ≡ Some (f k)
get_table f n k h = let e : 0 + k ≡ k = omega arith in get_from f 0 n k h ∙ ap (λ j. Some (f j)) e

none_from : {X : Type 0} (f : ℕ → X) (a n k : ℕ) → n ≤ k → slice_get (map f (range_with_len a n)) k ≡ None
none_from f a zero k h = refl
none_from f a (suc n) zero h = absurd (omega arith)
none_from f a (suc n) (suc k) h = let high : n ≤ k = omega arith in none_from f (a + 1) n k high

-- a place past the end of a table
pub none_past : {X : Type 0} (f : ℕ → X) (n k : ℕ) → n ≤ k → slice_get (map f (below n)) k ≡ None
none_past f n k h = none_from f 0 n k h

same_above : {X : Type 0} (f g : ℕ → X) (a n : ℕ) → ((j : ℕ) → a ≤ j → j < a + n → f j ≡ g j) → map f (range_with_len a n) ≡ map g (range_with_len a n)
same_above f g a zero h = refl
same_above {X} f g a (suc n) h =
    let here : a ≤ a = omega arith in
    let low : a < a + suc n = omega arith in
    let more : (j : ℕ) → a + 1 ≤ j → j < (a + 1) + n → f j ≡ g j = λ j high less. h j (omega arith) (omega arith) in
    λ i. h a here low i ∷ same_above f g (a + 1) n more i

-- tables that agree at each place
pub same_table : {X : Type 0} (f g : ℕ → X) (n : ℕ) → ((j : ℕ) → j < n → f j ≡ g j) → map f (below n) ≡ map g (below n)
same_table f g n h = same_above f g 0 n (λ j high less. let low : j < n = omega arith in h j low)

set_from : {X : Type 0} (f g : ℕ → X) (a n k : ℕ) (v : X) → g (a + k) ≡ v → ((j : ℕ) → (j ≡ a + k → ⊥) → j < a + n → f j ≡ g j) → slice_set (map f (range_with_len a n)) k v ≡ map g (range_with_len a n)
set_from f g a zero k v at others = refl
set_from f g a (suc n) zero v at others =
    let e : a + 0 ≡ a = omega arith in
    let rest : (j : ℕ) → a + 1 ≤ j → j < (a + 1) + n → f j ≡ g j = λ j high less. others j (λ same. omega arith) (omega arith) in
    λ i. (sym at ∙ ap g e) i ∷ same_above f g (a + 1) n rest i
set_from f g a (suc n) (suc k) v at others =
    let e : a + suc k ≡ (a + 1) + k = omega arith in
    let other : a ≡ a + suc k → ⊥ = λ same. omega arith in
    let low : a < a + suc n = omega arith in
    let there : g ((a + 1) + k) ≡ v = ap g (sym e) ∙ at in
    let rest : (j : ℕ) → (j ≡ (a + 1) + k → ⊥) → j < (a + 1) + n → f j ≡ g j = λ j ne less. others j (λ same. ne (same ∙ e)) (omega arith) in
    λ i. others a other low i ∷ set_from f g (a + 1) n k v there rest i

-- a table with one place set
pub set_table : {X : Type 0} (f g : ℕ → X) (n k : ℕ) (v : X) → g k ≡ v → ((j : ℕ) → (j ≡ k → ⊥) → j < n → f j ≡ g j) → slice_set (map f (below n)) k v ≡ map g (below n)
set_table f g n k v at others =
    let e : 0 + k ≡ k = omega arith in
    set_from f g 0 n k v (ap g e ∙ at) (λ j ne less. let low : j < n = omega arith in others j (λ same. ne (same ∙ sym e)) low)

-- a search over a table
pub any_table : {X Y : Type 0} (p : Y → Bool) (f : X → Y) (xs : List X) → list_any p (map f xs) ≡ list_any (λ x. p (f x)) xs
any_table p f [] = refl
any_table p f (x ∷ xs) = ap (λ b. p (f x) || b) (any_table p f xs)

-- the first of a list
abbrev pub first_of : List ℕ → Option ℕ
first_of [] = None
first_of (x ∷ xs) = Some x

lt_true : (m n : ℕ) → m < n → nat_lt m n ≡ true
lt_true m n h = grind (arith, nat_tests)

lt_more : (m l : ℕ) → nat_lt (1 + m) (suc l) ≡ nat_lt m l
lt_more m l = grind (arith, nat_tests)

first_step : (b : Bool) (a m l : ℕ) (rest : List ℕ) → cond (nat_lt m l) (Some ((a + 1) + m)) None ≡ first_of rest
    → cond (nat_lt (cond (not b) (1 + m) 0) (suc l)) (Some (a + cond (not b) (1 + m) 0)) None ≡ first_of (cond b (a ∷ rest) rest)
first_step true a m l rest ih =
    let t : 0 < suc l = omega arith in
    let e : a + 0 ≡ a = omega arith in
    ap (λ b. cond b (Some (a + 0)) None) (lt_true 0 (suc l) t) ∙ ap Some e
first_step false a m l rest ih =
    let e : a + (1 + m) ≡ (a + 1) + m = omega arith in
    ap (λ b. cond b (Some (a + (1 + m))) None) (lt_more m l) ∙ ap (λ k. cond (nat_lt m l) (Some k) None) e ∙ ih

first_from : {X : Type 0} (q : X → Bool) (f : ℕ → X) (a n : ℕ)
    → cond (nat_lt (position_or_len q (map f (range_with_len a n))) (length (map f (range_with_len a n)))) (Some (a + position_or_len q (map f (range_with_len a n)))) None
    ≡ first_of (filter (λ k. q (f k)) (range_with_len a n))
first_from q f a zero = refl
first_from q f a (suc n) =
    first_step (q (f a)) a (position_or_len q (map f (range_with_len (a + 1) n))) (length (map f (range_with_len (a + 1) n))) (filter (λ k. q (f k)) (range_with_len (a + 1) n)) (first_from q f (a + 1) n)

-- the first place of a table that passes
pub first_in_table : {X : Type 0} (q : X → Bool) (f : ℕ → X) (n : ℕ) → position q (map f (below n)) ≡ first_of (filter (λ k. q (f k)) (below n))
first_in_table q f n =
    let e : position_or_len q (map f (below n)) ≡ 0 + position_or_len q (map f (below n)) = omega arith in
    ap (λ k. cond (nat_lt (position_or_len q (map f (below n))) (length (map f (below n)))) (Some k) None) e ∙ first_from q f 0 n

pub set_where : {X : Type 0} (f g : ℕ → X) (n k : ℕ) (v : X) → ((a : ℕ) → g a ≡ cond (k == a) v (f a)) → map g (below n) ≡ slice_set (map f (below n)) k v
set_where f g n k v is =
    sym (set_table f g n k v (is k ∙ cond-true (k == k) v (f k) (eq-eqb k k refl)) (λ j ne less. sym (is j ∙ cond-false (k == j) v (f j) (ne_eqb k j (λ same. ne (sym same))))))

-- a table that stays
pub stays : {X : Type 0} (f g : ℕ → X) (n : ℕ) → ((a : ℕ) → g a ≡ f a) → map g (below n) ≡ map f (below n)
stays f g n is = same_table g f n (λ j low. is j)

pub of_either : {X Y : Type 0} (f : X → Y) (b : Bool) (x y : X) → f (cond b x y) ≡ cond b (f x) (f y)
of_either f true x y = refl
of_either f false x y = refl

pub same_either : {X : Type 0} (b : Bool) (x : X) → cond b x x ≡ x
same_either true x = refl
same_either false x = refl

-- a table with the same set at some places
pub set_all_where : {X : Type 0} (ks : List ℕ) (f g : ℕ → X) (n : ℕ) (v : X) → ((a : ℕ) → g a ≡ cond (is_in a ks) v (f a)) → map g (below n) ≡ set_all ks v (map f (below n))
set_all_where [] f g n v is = stays f g n is
set_all_where (k ∷ ks) f g n v is =
    set_all_where ks (λ a. cond (k == a) v (f a)) g n v (λ a. is a ∙ either (a == k) (k == a) (is_in a ks) v (f a) (turned a k))
    ∙ ap (set_all ks v) (set_where f (λ a. cond (k == a) v (f a)) n k v (λ a. refl))
  where
    turned : (a k : ℕ) → (a == k) ≡ (k == a)
    turned a k = grind (arith, nat_tests)

    either : {X : Type 0} (b c d : Bool) (v x : X) → b ≡ c → cond (b || d) v x ≡ cond d v (cond c v x)
    either true c true v x is = refl
    either true c false v x is = ap (λ e. cond e v x) is
    either false c true v x is = refl
    either false c false v x is = ap (λ e. cond e v x) is

find_miss : (b : Bool) (x : ℕ) (found : Option ℕ) (any : Bool) → (found ≡ None → any ≡ false) → cond b (Some x) found ≡ None → (b || any) ≡ false
find_miss true x found any later is = absurd (none-some x (sym is))
find_miss false x found any later is = later is

find_none : (p : ℕ → Bool) (xs : List ℕ) → find p xs ≡ None → list_any p xs ≡ false
find_none p [] is = refl
find_none p (x ∷ xs) is = find_miss (p x) x (find p xs) (list_any p xs) (find_none p xs) is

alone_by : (p : ℕ → Bool) (n l : ℕ) → l < n → p l ≡ true → ((a : ℕ) → p a ≡ true → a ≡ l) → (x : Option ℕ) → find p (below n) ≡ x → x ≡ Some l
alone_by p n l low passes alone None is = absurd (both_ways (list_any p (below n)) (find_none p (below n) is) (any_below p n l low passes))
alone_by p n l low passes alone (Some a) is = ap Some (alone a (find_is_in p (below n) a is).1)

-- a search that finds the one place that passes
pub found_alone : (p : ℕ → Bool) (n l : ℕ) → l < n → p l ≡ true → ((a : ℕ) → p a ≡ true → a ≡ l) → find p (below n) ≡ Some l
found_alone p n l low passes alone = alone_by p n l low passes alone (find p (below n)) refl

-- a search that finds nothing
pub found_none : (p : ℕ → Bool) (xs : List ℕ) → ((a : ℕ) → p a ≡ false) → find p xs ≡ None
found_none p [] none = refl
found_none p (x ∷ xs) none = cond-false (p x) (Some x) (find p xs) (none x) ∙ found_none p xs none
