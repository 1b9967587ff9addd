-- Those of a list that pass a test, counted and picked by going over the list.
use Rattle.std.proofs.Common.{◌≡◌, ℕ, zero, suc, ◌+◌, ◌<◌, ◌≤◌, Bool, true, false, cond, List, [], ◌∷◌, length, take, Some, None, refl, ap, sym, ◌∙◌, subst, arith}
use Rattle.std.specs.Prelude.{filter, slice_get, slice_index_or, sum_by, ◌==◌, ◌||◌, ◌&&◌}
use Rattle.std.specs.List.{list_any}
use Rattle.std.proofs.lemmas.Bool.{and_parts, eqb-false, eqb-true, false≢true}
use Rattle.std.proofs.lemmas.List.Sums.{sum_by_more}
use Rattle.coherence_model.specs.Flight.{is_takeable}
use Rattle.link_queues.specs.Queues.{takeable_before, takeable_in}
use Rattle.link_queues.proofs.Places.{within}
use Rattle.std.proofs.lemmas.Option.{same_Some}
use Rattle.cxl_message.specs.declared.messages.Message.{Message}
use Rattle.cxl_message.specs.Messages.{message_eq}
use Rattle.cxl_message.proofs.SameMessages.{same-message_eq}

-- how many of the first k members pass
abbrev pub passed : {X : Type 0} → (X → Bool) → List X → ℕ → ℕ
passed p xs k = length (filter p (take k xs))

pub none_passed : {X : Type 0} (p : X → Bool) (xs : List X) → passed p xs 0 ≡ 0
none_passed p [] = refl
none_passed p (x ∷ xs) = refl

len_if : {X : Type 0} (b : Bool) (x : X) (xs ys : List X) (n : ℕ) → length xs ≡ n + length ys → length (cond b (x ∷ xs) xs) ≡ n + length (cond b (x ∷ ys) ys)
len_if true x xs ys n e = omega arith
len_if false x xs ys n e = e

none_yet : {X : Type 0} (p : X → Bool) (xs : List X) → filter p (take 0 xs) ≡ []
none_yet p [] = refl
none_yet p (x ∷ xs) = refl

one_if : {X : Type 0} (b : Bool) (x : X) → length (cond b (x ∷ []) []) ≡ cond b 1 0 + 0
one_if true x = refl
one_if false x = refl

passed_more : {X : Type 0} (p : X → Bool) (xs : List X) (k : ℕ) (x : X) → slice_get xs k ≡ Some x → passed p xs (suc k) ≡ cond (p x) 1 0 + passed p xs k
passed_more p [] k x at = absurd cc
passed_more {X} p (y ∷ xs) zero x at = ap {A = List X} (λ l. length (cond (p y) (y ∷ l) l)) (none_yet p xs) ∙ one_if (p y) y ∙ ap (λ z. cond (p z) 1 0 + 0) (same_Some y x at)
passed_more p (y ∷ xs) (suc k) x at = len_if (p y) y (filter p (take (suc k) xs)) (filter p (take k xs)) (cond (p x) 1 0) (passed_more p xs k x at)

-- the member of a number is counted where it passes
pub counts_one : {X : Type 0} (p : X → Bool) (xs : List X) (k : ℕ) (x : X) → slice_get xs k ≡ Some x → passed p xs (k + 1) ≡ cond (p x) 1 0 + passed p xs k
counts_one p xs k x at = let e : k + 1 ≡ suc k = omega arith in ap (passed p xs) e ∙ passed_more p xs k x at

pub take_all : {X : Type 0} (xs : List X) (k : ℕ) → length xs ≤ k → take k xs ≡ xs
take_all [] zero h = refl
take_all [] (suc k) h = refl
take_all (x ∷ xs) zero h = absurd (omega arith)
take_all {X} (x ∷ xs) (suc k) h = ap {B = List X} (λ l. x ∷ l) (take_all xs k (omega arith))

-- at the end all are counted
pub counts_all : {X : Type 0} (p : X → Bool) (xs : List X) (k : ℕ) → length xs ≤ k → passed p xs k ≡ length (filter p xs)
counts_all p xs k h = ap (λ l. length (filter p l)) (take_all xs k h)

pick_step : {X : Type 0} (b : Bool) (y x : X) (ys zs : List X) → (slice_get ys (length zs) ≡ Some x) → slice_get (cond b (y ∷ ys) ys) (length (cond b (y ∷ zs) zs)) ≡ Some x
pick_step true y x ys zs e = e
pick_step false y x ys zs e = e

pick_here : {X : Type 0} (b : Bool) (y : X) (ys : List X) → b ≡ true → slice_get (cond b (y ∷ ys) ys) 0 ≡ Some y
pick_here true y ys e = refl
pick_here false y ys e = absurd (false≢true e)

-- the one that passes is the one of its number
pub picks : {X : Type 0} (p : X → Bool) (xs : List X) (k : ℕ) (x : X) → slice_get xs k ≡ Some x → p x ≡ true → slice_get (filter p xs) (passed p xs k) ≡ Some x
picks p [] k x at e = absurd cc
picks p (y ∷ xs) zero x at e = pick_here (p y) y (filter p xs) (ap p (same_Some y x at) ∙ e) ∙ at
picks p (y ∷ xs) (suc k) x at e = pick_step (p y) y x (filter p xs) (filter p (take k xs)) (picks p xs k x at e)

get_past : {X : Type 0} (xs : List X) (k : ℕ) → length xs ≤ k → slice_get xs k ≡ None
get_past [] k h = refl
get_past (x ∷ xs) zero h = absurd (omega arith)
get_past (x ∷ xs) (suc k) h = get_past xs k (omega arith)

-- past the end none is picked
pub picks_none : {X : Type 0} (p : X → Bool) (xs : List X) (j k : ℕ) → length xs ≤ j → passed p xs j ≤ k → slice_get (filter p xs) k ≡ None
picks_none p xs j k end few = get_past (filter p xs) k (let same = counts_all p xs j end in omega arith)

or_here : (b c : Bool) → b ≡ true → (b || c) ≡ true
or_here true c e = refl
or_here false c e = absurd (false≢true e)

or_later : (b c : Bool) → c ≡ true → (b || c) ≡ true
or_later true c e = refl
or_later false c e = e

-- a message of a list is among them
pub is_there : (ms : List Message) (k : ℕ) (m : Message) → slice_get ms k ≡ Some m → list_any (message_eq m) ms ≡ true
is_there [] k m at = absurd cc
is_there (n ∷ ms) zero m at = or_here (message_eq m n) (list_any (message_eq m) ms) (same-message_eq m n (sym (same_Some n m at)))
is_there (n ∷ ms) (suc k) m at = or_later (message_eq m n) (list_any (message_eq m) ms) (is_there ms k m at)

-- so only the rest of the test decides
pub rest_decides : (ms : List Message) (k : ℕ) (m : Message) (rest : Bool) → slice_get ms k ≡ Some m → rest ≡ (list_any (message_eq m) ms && rest)
rest_decides ms k m rest at = ap (λ b. b && rest) (sym (is_there ms k m at))

pub no_sum : {X : Type 0} (f : X → ℕ) (xs : List X) → sum_by f (take 0 xs) ≡ 0
no_sum f [] = refl
no_sum f (x ∷ xs) = refl

index_is : {X : Type 0} (xs : List X) (k : ℕ) (x : X) → slice_get xs k ≡ Some x → slice_index_or xs k x ≡ x
index_is [] k x at = refl
index_is (y ∷ xs) zero x at = same_Some y x at
index_is (y ∷ xs) (suc k) x at = index_is xs k x at

-- the sum over the first members, and one more
pub sums_more : {X : Type 0} (f : X → ℕ) (xs : List X) (k : ℕ) (x : X) → slice_get xs k ≡ Some x → sum_by f (take (k + 1) xs) ≡ sum_by f (take k xs) + f x
sums_more f xs k x at = sum_by_more f xs k x (within xs k x at) ∙ ap (λ y. sum_by f (take k xs) + f y) (index_is xs k x at)

-- and over all of them
pub sums_all : {X : Type 0} (f : X → ℕ) (xs : List X) (k : ℕ) → length xs ≤ k → sum_by f (take k xs) ≡ sum_by f xs
sums_all f xs k h = ap (sum_by f) (take_all xs k h)

-- what was picked up to now isn't more than wanted, as long as the wanted one wasn't met
pub not_yet : (goes : Bool) (n k : ℕ) → n ≤ k → false ≡ (goes && (n == k)) → cond goes 1 0 + n ≤ k
not_yet false n k low other = omega arith
not_yet true n k low other = let differ = eqb-false n k (sym other) in omega arith

-- the one that goes after as many as wanted is the one of that number
pub wanted_is : (ms : List Message) (at n k : ℕ) (m : Message) (goes : Bool) → slice_get ms at ≡ Some m → goes ≡ is_takeable m ms → n ≡ takeable_before ms at
    → true ≡ (goes && (n == k)) → Some m ≡ slice_get (takeable_in ms) k
wanted_is ms at n k m goes there same before both =
    let parts = and_parts goes (n == k) (sym both) in
    sym (ap (slice_get (takeable_in ms)) (sym (eqb-true n k parts.1) ∙ before) ∙ picks (λ x. is_takeable x ms) ms at m there (sym same ∙ parts.0))
