-- The members of a list of parts, one part after another: counted, and the one of a number.
use Rattle.std.proofs.Common.{◌≡◌, ℕ, zero, suc, ◌+◌, ◌-◌, ◌<◌, ◌≤◌, List, Option, [], ◌∷◌, ◌++◌, length, take, get_or, Some, None, refl, ap, sym, ◌∙◌, subst, arith}
use Rattle.std.specs.Prelude.{flat_map, slice_get}
use Rattle.std.proofs.lemmas.List.{flat_map_more, length-append, take_more}
use Rattle.std.proofs.lemmas.List.Concat.{flat_map-cons}
use Rattle.std.proofs.lemmas.Option.{slice_get_past}
use Rattle.link_queues.proofs.Picked.{take_all}

-- before the first part there are none
pub none_before : {X A : Type 0} (f : X → List A) (xs : List X) → length (flat_map f (take 0 xs)) ≡ 0
none_before f [] = refl
none_before f (x ∷ xs) = refl

-- with one more part there are its members more
pub one_part_more : {X A : Type 0} (f : X → List A) (xs : List X) (i : ℕ) (d : X) → i < length xs
    → length (flat_map f (take (i + 1) xs)) ≡ length (flat_map f (take i xs)) + length (f (get_or xs i d))
one_part_more f xs i d h =
    ap (λ l. length (flat_map f l)) (take_more xs i d h) ∙ ap length (sym (flat_map_more f [] (take i xs) (get_or xs i d))) ∙ length-append (flat_map f (take i xs)) (f (get_or xs i d))

-- with all parts there are all
pub all_parts : {X A : Type 0} (f : X → List A) (xs : List X) (i : ℕ) → length xs ≤ i → length (flat_map f (take i xs)) ≡ length (flat_map f xs)
all_parts f xs i h = ap (λ l. length (flat_map f l)) (take_all xs i h)

pub get_left : {A : Type 0} (xs ys : List A) (j : ℕ) → j < length xs → slice_get (xs ++ ys) j ≡ slice_get xs j
get_left [] ys j low = absurd (omega arith)
get_left (x ∷ xs) ys zero low = refl
get_left (x ∷ xs) ys (suc j) low = get_left xs ys j (omega arith)

pub get_right : {A : Type 0} (xs ys : List A) (j : ℕ) → slice_get (xs ++ ys) (length xs + j) ≡ slice_get ys j
get_right [] ys j = let e : 0 + j ≡ j = omega arith in ap (slice_get ys) e
get_right (x ∷ xs) ys j = let e : suc (length xs) + j ≡ suc (length xs + j) = omega arith in ap (slice_get (x ∷ (xs ++ ys))) e ∙ get_right xs ys j

-- a member of a part stands after the parts before
pub picks_part : {X A : Type 0} (f : X → List A) (xs : List X) (i : ℕ) (d : X) (j : ℕ) → i < length xs → j < length (f (get_or xs i d))
    → slice_get (flat_map f xs) (length (flat_map f (take i xs)) + j) ≡ slice_get (f (get_or xs i d)) j
picks_part f [] i d j h low = absurd (omega arith)
picks_part f (x ∷ xs) zero d j h low =
    let e : 0 + j ≡ j = omega arith in
    ap (slice_get (flat_map f (x ∷ xs))) e ∙ ap (λ l. slice_get l j) (flat_map-cons f x xs) ∙ get_left (f x) (flat_map f xs) j low
picks_part f (x ∷ xs) (suc i) d j h low =
    let len = ap length (flat_map-cons f x (take i xs)) ∙ length-append (f x) (flat_map f (take i xs)) in
    let e : (length (f x) + length (flat_map f (take i xs))) + j ≡ length (f x) + (length (flat_map f (take i xs)) + j) = omega arith in
    ap (λ l. slice_get l (length (flat_map f (x ∷ take i xs)) + j)) (flat_map-cons f x xs)
    ∙ ap (λ n. slice_get (f x ++ flat_map f xs) (n + j)) len ∙ ap (slice_get (f x ++ flat_map f xs)) e
    ∙ get_right (f x) (flat_map f xs) (length (flat_map f (take i xs)) + j) ∙ picks_part f xs i d j (omega arith) low

-- past all parts there is none
pub picks_no_part : {X A : Type 0} (f : X → List A) (xs : List X) (i j : ℕ) → length xs ≤ i → slice_get (flat_map f xs) (length (flat_map f (take i xs)) + j) ≡ None
picks_no_part f xs i j h = slice_get_past (flat_map f xs) _ (let all = all_parts f xs i h in omega arith)

-- what is picked of a part is picked of all
pub part_picked : {X A : Type 0} (f : X → List A) (xs : List X) (i : ℕ) (d : X) (k left : ℕ) (ms : List A) (o : Option A) → i < length xs
    → k ≡ length (flat_map f (take i xs)) + left → ms ≡ f (get_or xs i d) → left < length ms → o ≡ slice_get ms left → o ≡ slice_get (flat_map f xs) k
part_picked f xs i d k left ms o h at here low is =
    let low_there = subst (λ l. left < length l) here low in
    is ∙ ap (λ l. slice_get l left) here ∙ sym (picks_part f xs i d left h low_there) ∙ ap (slice_get (flat_map f xs)) (sym at)

-- a part is passed
pub part_passed : {X A : Type 0} (f : X → List A) (xs : List X) (i : ℕ) (d : X) (k left n : ℕ) (ms : List A) → i < length xs
    → k ≡ length (flat_map f (take i xs)) + left → ms ≡ f (get_or xs i d) → n ≡ length ms → n ≤ left → k ≡ length (flat_map f (take (i + 1) xs)) + (left - n)
part_passed f xs i d k left n ms h at here len low =
    let more = one_part_more f xs i d h in
    let same = len ∙ ap length here in
    omega arith
