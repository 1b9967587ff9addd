-- Lists of what a table has, by ascending place: each is found by its place, one more goes to its place, and one leaves.
use Rattle.std.proofs.Common.{◌≡◌, ℕ, zero, suc, ◌+◌, ◌<◌, ◌≤◌, Bool, true, false, List, [], ◌∷◌, ◌++◌, Option, Some, None, cond, find, map, refl, ap, sym, ◌∙◌, arith}
use Rattle.std.specs.Prelude.{filter, nat_lt, not, option_map, option_to_list, ◌==◌}
use Rattle.std.specs.List.{range_with_len}
use Rattle.std.proofs.lemmas.Bool.{cond-false, cond-true, eq-eqb, eqb-false, eqb-true, lt-ltb, ne_eqb, ltb-true}
use Rattle.cxl_message.specs.Lists.{below}
use Rattle.device_record.specs.Sparse.{put_in_order, sparse}

-- a change of what stands at one place, or at none
abbrev pub placed : {X : Type 0} → ℕ → Option X → (ℕ → Option X) → ℕ → Option X
placed a new f b = cond (b == a) new (f b)

-- a key that tells the place
abbrev pub IsKeyed : {X : Type 0} → (X → ℕ) → (ℕ → Option X) → Type 0
IsKeyed {X} key f = (a : ℕ) (x : X) → f a ≡ Some x → key x ≡ a

-- ---- tables that agree

same_at : {X : Type 0} (f g : ℕ → Option X) (s n : ℕ) → ((j : ℕ) → s ≤ j → j < s + n → f j ≡ g j) → sparse f (range_with_len s n) ≡ sparse g (range_with_len s n)
same_at f g s zero same = refl
same_at f g s (suc n) same =
    let here : s ≤ s = omega arith in
    let low : s < s + suc n = omega arith in
    ap (λ o. option_to_list o ++ sparse f (range_with_len (s + 1) n)) (same s here low)
    ∙ ap (λ l. option_to_list (g s) ++ l) (same_at f g (s + 1) n (λ j high less. let higher : s ≤ j = omega arith in let lower : j < s + suc n = omega arith in same j higher lower))

-- tables that agree below a bound
pub same_sparse : {X : Type 0} (f g : ℕ → Option X) (n : ℕ) → ((j : ℕ) → j < n → f j ≡ g j) → sparse f (below n) ≡ sparse g (below n)
same_sparse f g n same = same_at f g 0 n (λ j high less. let low : j < n = omega arith in same j low)

-- ---- each changed

map_one : {X Y : Type 0} (g : X → Y) (o : Option X) (rest : List X) → map g (option_to_list o ++ rest) ≡ option_to_list (option_map g o) ++ map g rest
map_one g None rest = refl
map_one g (Some x) rest = refl

-- what stands at each place is changed
pub map_sparse : {X Y : Type 0} (g : X → Y) (f : ℕ → Option X) (xs : List ℕ) → map g (sparse f xs) ≡ sparse (λ a. option_map g (f a)) xs
map_sparse g f [] = refl
map_sparse g f (a ∷ xs) = map_one g (f a) (sparse f xs) ∙ ap (λ l. option_to_list (option_map g (f a)) ++ l) (map_sparse g f xs)

-- ---- one that leaves

-- what is kept of what stands at a place
abbrev pub kept_if : {X : Type 0} → (X → Bool) → Option X → Option X
kept_if p None = None
kept_if p (Some x) = cond (p x) (Some x) None

filter_by : {X : Type 0} (p : X → Bool) (x : X) (rest : List X) (b : Bool) → cond b (x ∷ filter p rest) (filter p rest) ≡ option_to_list (cond b (Some x) None) ++ filter p rest
filter_by p x rest true = refl
filter_by p x rest false = refl

filter_one : {X : Type 0} (p : X → Bool) (o : Option X) (rest : List X) → filter p (option_to_list o ++ rest) ≡ option_to_list (kept_if p o) ++ filter p rest
filter_one p None rest = refl
filter_one p (Some x) rest = filter_by p x rest (p x)

pub filter_sparse : {X : Type 0} (p : X → Bool) (f : ℕ → Option X) (xs : List ℕ) → filter p (sparse f xs) ≡ sparse (λ a. kept_if p (f a)) xs
filter_sparse p f [] = refl
filter_sparse p f (a ∷ xs) = filter_one p (f a) (sparse f xs) ∙ ap (λ l. option_to_list (kept_if p (f a)) ++ l) (filter_sparse p f xs)

none_either : {X : Type 0} (o : Option X) (c : Bool) → o ≡ cond c o o
none_either o true = refl
none_either o false = refl

turned : {X : Type 0} (c : Bool) (o : Option X) → cond (not c) o None ≡ cond c None o
turned true o = refl
turned false o = refl

left_by : {X : Type 0} (key : X → ℕ) (a b : ℕ) (o : Option X) → ((x : X) → o ≡ Some x → key x ≡ b) → kept_if (λ x. not (key x == a)) o ≡ cond (b == a) None o
left_by key a b None keyed = none_either None (b == a)
left_by key a b (Some x) keyed = ap (λ k. cond (not (k == a)) (Some x) None) (keyed x refl) ∙ turned (b == a) (Some x)

-- what stands at a place leaves
pub sparse_without : {X : Type 0} (key : X → ℕ) (f : ℕ → Option X) (a : ℕ) (xs : List ℕ) → IsKeyed key f
    → filter (λ x. not (key x == a)) (sparse f xs) ≡ sparse (placed a None f) xs
sparse_without key f a xs keyed =
    filter_sparse (λ x. not (key x == a)) f xs ∙ ap (λ (g : ℕ → Option _). sparse g xs) (λ i b. left_by key a b (f b) (keyed b) i)

-- ---- one that is found

skip_by : {X : Type 0} (key : X → ℕ) (a : ℕ) (o : Option X) (rest : List X) → ((x : X) → o ≡ Some x → key x ≡ a → ⊥) → find (λ x. key x == a) (option_to_list o ++ rest) ≡ find (λ x. key x == a) rest
skip_by key a None rest other = refl
skip_by key a (Some x) rest other = cond-false (key x == a) _ _ (ne_eqb (key x) a (other x refl))

skip_all : {X : Type 0} (key : X → ℕ) (f : ℕ → Option X) (a s n : ℕ) → IsKeyed key f → ((j : ℕ) → s ≤ j → j < s + n → j ≡ a → ⊥) → find (λ x. key x == a) (sparse f (range_with_len s n)) ≡ None
skip_all key f a s zero keyed other = refl
skip_all key f a s (suc n) keyed other =
    let here : s ≤ s = omega arith in
    let low : s < s + suc n = omega arith in
    skip_by key a (f s) (sparse f (range_with_len (s + 1) n)) (λ x is same. other s here low (sym (keyed s x is) ∙ same))
    ∙ skip_all key f a (s + 1) n keyed (λ j high less. let higher : s ≤ j = omega arith in let lower : j < s + suc n = omega arith in other j higher lower)

here_by : {X : Type 0} (key : X → ℕ) (a : ℕ) (o : Option X) (rest : List X) → ((x : X) → o ≡ Some x → key x ≡ a) → find (λ x. key x == a) rest ≡ None → find (λ x. key x == a) (option_to_list o ++ rest) ≡ o
here_by key a None rest keyed none = none
here_by key a (Some x) rest keyed none = cond-true (key x == a) _ _ (eq-eqb (key x) a (keyed x refl))

find_step : {X : Type 0} (key : X → ℕ) (f : ℕ → Option X) (a s n : ℕ) (b : Bool) → (s == a) ≡ b → IsKeyed key f
    → ((s ≡ a → ⊥) → find (λ x. key x == a) (sparse f (range_with_len (s + 1) n)) ≡ f a)
    → find (λ x. key x == a) (option_to_list (f s) ++ sparse f (range_with_len (s + 1) n)) ≡ f a
find_step key f a s n true is keyed later =
    let same = eqb-true s a is in
    here_by key a (f s) (sparse f (range_with_len (s + 1) n)) (λ x there. keyed s x there ∙ same) (skip_all key f a (s + 1) n keyed (λ j high less equal. omega arith)) ∙ ap f same
find_step key f a s n false is keyed later =
    let other = eqb-false s a is in
    skip_by key a (f s) (sparse f (range_with_len (s + 1) n)) (λ x there same. other (sym (keyed s x there) ∙ same)) ∙ later other

find_from : {X : Type 0} (key : X → ℕ) (f : ℕ → Option X) (a s n : ℕ) → IsKeyed key f → s ≤ a → a < s + n → find (λ x. key x == a) (sparse f (range_with_len s n)) ≡ f a
find_from key f a s zero keyed low high = absurd (omega arith)
find_from key f a s (suc n) keyed low high =
    find_step key f a s n (s == a) refl keyed (λ other. let lower : s + 1 ≤ a = omega arith in let higher : a < (s + 1) + n = omega arith in find_from key f a (s + 1) n keyed lower higher)

-- what stands at a place below the bound is found by its key
pub sparse_found : {X : Type 0} (key : X → ℕ) (f : ℕ → Option X) (a n : ℕ) → IsKeyed key f → a < n → find (λ x. key x == a) (sparse f (below n)) ≡ f a
sparse_found key f a n keyed low = let least : 0 ≤ a = omega arith in let high : a < 0 + n = omega arith in find_from key f a 0 n keyed least high

-- and nothing past it
pub sparse_past : {X : Type 0} (key : X → ℕ) (f : ℕ → Option X) (a n : ℕ) → IsKeyed key f → n ≤ a → find (λ x. key x == a) (sparse f (below n)) ≡ None
sparse_past key f a n keyed high = skip_all key f a 0 n keyed (λ j least less same. omega arith)

-- ---- one more

front_by : {X : Type 0} (key : X → ℕ) (x : X) (o : Option X) (rest : List X) → ((y : X) → o ≡ Some y → nat_lt (key y) (key x) ≡ false) → put_in_order key x rest ≡ x ∷ rest
    → put_in_order key x (option_to_list o ++ rest) ≡ x ∷ (option_to_list o ++ rest)
front_by key x None rest high more = more
front_by key x (Some y) rest high more = cond-false (nat_lt (key y) (key x)) _ _ (high y refl)

not_less : {m n : ℕ} (b : Bool) → nat_lt m n ≡ b → (m < n → ⊥) → b ≡ false
not_less true is other = absurd (other (ltb-true _ _ is))
not_less false is other = refl

high_by : {X : Type 0} (key : X → ℕ) (x y : X) (s : ℕ) → key y ≡ s → key x < s → nat_lt (key y) (key x) ≡ false
high_by key x y s is low = not_less (nat_lt (key y) (key x)) refl (λ less. omega arith)

front : {X : Type 0} (key : X → ℕ) (x : X) (f : ℕ → Option X) (s n : ℕ) → IsKeyed key f → key x < s → put_in_order key x (sparse f (range_with_len s n)) ≡ x ∷ sparse f (range_with_len s n)
front key x f s zero keyed low = refl
front key x f s (suc n) keyed low =
    let lower : key x < s + 1 = omega arith in
    front_by key x (f s) (sparse f (range_with_len (s + 1) n)) (λ y is. high_by key x y s (keyed s y is) low) (front key x f (s + 1) n keyed lower)

past_by : {X : Type 0} (key : X → ℕ) (x : X) (o : Option X) (rest : List X) → ((y : X) → o ≡ Some y → nat_lt (key y) (key x) ≡ true)
    → put_in_order key x (option_to_list o ++ rest) ≡ option_to_list o ++ put_in_order key x rest
past_by key x None rest low = refl
past_by key x (Some y) rest low = cond-true (nat_lt (key y) (key x)) _ _ (low y refl)

less_by : {X : Type 0} (key : X → ℕ) (x y : X) (s : ℕ) → key y ≡ s → s < key x → nat_lt (key y) (key x) ≡ true
less_by key x y s is low = let less : key y < key x = omega arith in lt-ltb (key y) (key x) less

put_step : {X : Type 0} (key : X → ℕ) (x : X) (f : ℕ → Option X) (a s n : ℕ) (b : Bool) → (s == a) ≡ b → IsKeyed key f → key x ≡ a → f a ≡ None → s ≤ a
    → (s < a → put_in_order key x (sparse f (range_with_len (s + 1) n)) ≡ sparse (placed a (Some x) f) (range_with_len (s + 1) n))
    → put_in_order key x (option_to_list (f s) ++ sparse f (range_with_len (s + 1) n)) ≡ option_to_list (cond b (Some x) (f s)) ++ sparse (placed a (Some x) f) (range_with_len (s + 1) n)
put_step key x f a s n true is keyed own free low later =
    let same = eqb-true s a is in
    let lower : key x < s + 1 = omega arith in
    ap (λ o. put_in_order key x (option_to_list o ++ sparse f (range_with_len (s + 1) n))) (ap f same ∙ free)
    ∙ front key x f (s + 1) n keyed lower
    ∙ ap (λ l. x ∷ l) (same_at f (placed a (Some x) f) (s + 1) n (λ j high less. sym (cond-false (j == a) (Some x) (f j) (ne_eqb j a (λ equal. omega arith)))))
put_step key x f a s n false is keyed own free low later =
    let other = eqb-false s a is in
    let less : s < a = omega arith in
    let lower : s < key x = omega arith in
    past_by key x (f s) (sparse f (range_with_len (s + 1) n)) (λ y there. less_by key x y s (keyed s y there) lower) ∙ ap (λ l. option_to_list (f s) ++ l) (later less)

put_from : {X : Type 0} (key : X → ℕ) (x : X) (f : ℕ → Option X) (a s n : ℕ) → IsKeyed key f → key x ≡ a → f a ≡ None → s ≤ a → a < s + n
    → put_in_order key x (sparse f (range_with_len s n)) ≡ sparse (placed a (Some x) f) (range_with_len s n)
put_from key x f a s zero keyed own free low high = absurd (omega arith)
put_from key x f a s (suc n) keyed own free low high =
    put_step key x f a s n (s == a) refl keyed own free low
    (λ less. let lower : s + 1 ≤ a = omega arith in let higher : a < (s + 1) + n = omega arith in put_from key x f a (s + 1) n keyed own free lower higher)

-- one more goes to its place, where nothing stood
pub sparse_put : {X : Type 0} (key : X → ℕ) (x : X) (f : ℕ → Option X) (a n : ℕ) → IsKeyed key f → key x ≡ a → f a ≡ None → a < n → put_in_order key x (sparse f (below n)) ≡ sparse (placed a (Some x) f) (below n)
sparse_put key x f a n keyed own free low = let least : 0 ≤ a = omega arith in let high : a < 0 + n = omega arith in put_from key x f a 0 n keyed own free least high
