-- The place of the first member that passes a test, found by going over the list.
use Rattle.std.proofs.Common.{◌≡◌, ℕ, zero, suc, ◌+◌, ◌<◌, ◌≤◌, Bool, true, false, cond, List, [], ◌∷◌, length, Option, Some, None, refl, ap, sym, ◌∙◌, subst, arith}
use Rattle.std.specs.Prelude.{find, is_some, nat_lt, not, position, remove, slice_get, ◌||◌}
use Rattle.std.specs.List.{list_any, position_or_len}
use Rattle.std.proofs.lemmas.Bool.Decides.{nat_tests}
use Rattle.std.proofs.lemmas.Bool.{false≢true}
use Rattle.std.proofs.lemmas.Option.{same_Some}
use Rattle.cxl_message.specs.declared.messages.Message.{Message}
use Rattle.cxl_message.specs.Messages.{message_eq}
use Rattle.coherence_model.specs.Flight.{without_first}

first_step : (b : Bool) (n : ℕ) → b ≡ false → 1 ≤ cond (not b) (1 + n) 0
first_step true n e = absurd (false≢true (sym e))
first_step false n e = omega arith

more_step : (b : Bool) (n k : ℕ) → suc k ≤ cond (not b) (1 + n) 0 → (k ≤ n → suc k ≤ n) → suc (suc k) ≤ cond (not b) (1 + n) 0
more_step true n k low more = absurd (omega arith)
more_step false n k low more = let less = more (omega arith) in omega arith

-- one more member was passed
pub passes : {X : Type 0} (p : X → Bool) (xs : List X) (k : ℕ) (x : X) → slice_get xs k ≡ Some x → p x ≡ false → k ≤ position_or_len p xs → suc k ≤ position_or_len p xs
passes p [] k x at e low = absurd cc
passes p (y ∷ xs) zero x at e low = first_step (p y) (position_or_len p xs) (ap p (same_Some y x at) ∙ e)
passes p (y ∷ xs) (suc k) x at e low = more_step (p y) (position_or_len p xs) k low (passes p xs k x at e)

stop_step : (b : Bool) (n k : ℕ) → suc k ≤ cond (not b) (1 + n) 0 → (k ≤ n → n ≡ k) → cond (not b) (1 + n) 0 ≡ suc k
stop_step true n k low same = absurd (omega arith)
stop_step false n k low same = let is = same (omega arith) in omega arith

here_step : (b : Bool) (n : ℕ) → b ≡ true → cond (not b) (1 + n) 0 ≡ 0
here_step true n e = refl
here_step false n e = absurd (false≢true e)

stops_there : {X : Type 0} (p : X → Bool) (xs : List X) (k : ℕ) (x : X) → slice_get xs k ≡ Some x → p x ≡ true → k ≤ position_or_len p xs → position_or_len p xs ≡ k
stops_there p [] k x at e low = absurd cc
stops_there p (y ∷ xs) zero x at e low = here_step (p y) (position_or_len p xs) (ap p (same_Some y x at) ∙ e)
stops_there p (y ∷ xs) (suc k) x at e low = stop_step (p y) (position_or_len p xs) k low (stops_there p xs k x at e)

pub within : {X : Type 0} (xs : List X) (k : ℕ) (x : X) → slice_get xs k ≡ Some x → k < length xs
within [] k x at = absurd cc
within (y ∷ xs) zero x at = omega arith
within (y ∷ xs) (suc k) x at = let low = within xs k x at in omega arith

-- the first that passes is there
pub stops : {X : Type 0} (p : X → Bool) (xs : List X) (k : ℕ) (x : X) → slice_get xs k ≡ Some x → p x ≡ true → k ≤ position_or_len p xs → position p xs ≡ Some k
stops p xs k x at e low =
    let is = stops_there p xs k x at e low in
    let there = within xs k x at in
    let test : nat_lt (position_or_len p xs) (length xs) ≡ true = grind (arith, nat_tests) in
    ap (λ b. cond b (Some (position_or_len p xs)) None) test ∙ ap Some is

-- none passes
pub none_stops : {X : Type 0} (p : X → Bool) (xs : List X) → length xs ≤ position_or_len p xs → position p xs ≡ None
none_stops p xs all =
    let test : nat_lt (position_or_len p xs) (length xs) ≡ false = grind (arith, nat_tests) in
    ap (λ b. cond b (Some (position_or_len p xs)) None) test

find_step : {X : Type 0} (b : Bool) (n k : ℕ) (y : X) (o : Option X) (x : X) → suc k ≤ cond (not b) (1 + n) 0 → (k ≤ n → o ≡ Some x) → cond b (Some y) o ≡ Some x
find_step true n k y o x low more = absurd (omega arith)
find_step false n k y o x low more = more (omega arith)

find_here : {X : Type 0} (b : Bool) (y : X) (o : Option X) → b ≡ true → cond b (Some y) o ≡ Some y
find_here true y o e = refl
find_here false y o e = absurd (false≢true e)

-- so it is found
pub finds : {X : Type 0} (p : X → Bool) (xs : List X) (k : ℕ) (x : X) → slice_get xs k ≡ Some x → p x ≡ true → k ≤ position_or_len p xs → find p xs ≡ Some x
finds p [] k x at e low = absurd cc
finds p (y ∷ xs) zero x at e low = find_here (p y) y (find p xs) (ap p (same_Some y x at) ∙ e) ∙ at
finds p (y ∷ xs) (suc k) x at e low = find_step (p y) (position_or_len p xs) k y (find p xs) x low (finds p xs k x at e)

none_step : {X : Type 0} (b : Bool) (n l : ℕ) (y : X) (o : Option X) → suc l ≤ cond (not b) (1 + n) 0 → (l ≤ n → o ≡ None) → cond b (Some y) o ≡ None
none_step true n l y o low more = absurd (omega arith)
none_step false n l y o low more = more (omega arith)

-- or none is
pub finds_none : {X : Type 0} (p : X → Bool) (xs : List X) → length xs ≤ position_or_len p xs → find p xs ≡ None
finds_none p [] all = refl
finds_none p (y ∷ xs) all = none_step (p y) (position_or_len p xs) (length xs) y (find p xs) all (finds_none p xs)

at_place : (b : Bool) (k i : ℕ) → cond b (Some k) None ≡ Some i → (b ≡ true) × (k ≡ i)
at_place true k i e = (refl, cc)
at_place false k i e = absurd cc

no_place : (b : Bool) (k : ℕ) → cond b (Some k) None ≡ None → b ≡ false
no_place true k e = absurd cc
no_place false k e = refl

-- a place that was found is one of the list
pub found_within : {X : Type 0} (p : X → Bool) (xs : List X) (i : ℕ) → position p xs ≡ Some i → i < length xs
found_within p xs i e =
    let f = at_place (nat_lt (position_or_len p xs) (length xs)) (position_or_len p xs) i e in
    let t : nat_lt (position_or_len p xs) (length xs) ≡ true = f.0 in
    let low : position_or_len p xs < length xs = grind (arith, nat_tests) in
    let same = f.1 in
    omega arith

some_step : (b r : Bool) (n l : ℕ) → nat_lt n l ≡ r → nat_lt (cond (not b) (1 + n) 0) (suc l) ≡ (b || r)
some_step true r n l e = grind (arith, nat_tests)
some_step false r n l e = let same : nat_lt (1 + n) (suc l) ≡ nat_lt n l = grind (arith, nat_tests) in same ∙ e

any_by_place : {X : Type 0} (p : X → Bool) (xs : List X) → nat_lt (position_or_len p xs) (length xs) ≡ list_any p xs
any_by_place p [] = refl
any_by_place p (x ∷ xs) = some_step (p x) (list_any p xs) (position_or_len p xs) (length xs) (any_by_place p xs)

some_if : (b : Bool) (k : ℕ) → is_some (cond b (Some k) None) ≡ b
some_if true k = refl
some_if false k = refl

-- there is a place exactly where some member passes
pub any_found : {X : Type 0} (p : X → Bool) (xs : List X) → is_some (position p xs) ≡ list_any p xs
any_found p xs = some_if (nat_lt (position_or_len p xs) (length xs)) (position_or_len p xs) ∙ any_by_place p xs

removed_step : {X : Type 0} (b : Bool) (x : X) (xs r : List X) (n : ℕ) → (n < length xs → remove xs n ≡ r) → cond (not b) (1 + n) 0 < length (x ∷ xs) → remove (x ∷ xs) (cond (not b) (1 + n) 0) ≡ cond b xs (x ∷ r)
removed_step true x xs r n ih h = refl
removed_step {X} false x xs r n ih h =
    let e : 1 + n ≡ suc n = omega arith in
    let low : n < length xs = omega arith in
    let P : ℕ → Type 0 = λ k. remove (x ∷ xs) k ≡ x ∷ r in
    subst P (sym e) (ap {B = List X} (λ l. x ∷ l) (ih low))

removed_there : (m : Message) (xs : List Message) → position_or_len (message_eq m) xs < length xs → remove xs (position_or_len (message_eq m) xs) ≡ without_first m xs
removed_there m [] h = absurd (omega arith)
removed_there m (x ∷ xs) h = removed_step (message_eq m x) x xs (without_first m xs) (position_or_len (message_eq m) xs) (removed_there m xs) h

stays_step : {X : Type 0} (b : Bool) (x : X) (xs r : List X) (n : ℕ) → (length xs ≤ n → r ≡ xs) → length (x ∷ xs) ≤ cond (not b) (1 + n) 0 → cond b xs (x ∷ r) ≡ x ∷ xs
stays_step true x xs r n ih h = absurd (omega arith)
stays_step {X} false x xs r n ih h = let low : length xs ≤ n = omega arith in ap {B = List X} (λ l. x ∷ l) (ih low)

stays_there : (m : Message) (xs : List Message) → length xs ≤ position_or_len (message_eq m) xs → without_first m xs ≡ xs
stays_there m [] h = refl
stays_there m (x ∷ xs) h = stays_step (message_eq m x) x xs (without_first m xs) (position_or_len (message_eq m) xs) (stays_there m xs) h

-- the place of the first message that is equal to m taken out
pub first_taken_out : (m : Message) (xs : List Message) (i : ℕ) → position (message_eq m) xs ≡ Some i → remove xs i ≡ without_first m xs
first_taken_out m xs i e =
    let f = at_place (nat_lt (position_or_len (message_eq m) xs) (length xs)) (position_or_len (message_eq m) xs) i e in
    let t : nat_lt (position_or_len (message_eq m) xs) (length xs) ≡ true = f.0 in
    let low : position_or_len (message_eq m) xs < length xs = grind (arith, nat_tests) in
    ap (λ k. remove xs k) (sym f.1) ∙ removed_there m xs low

-- where no message is equal to m
pub none_taken_out : (m : Message) (xs : List Message) → position (message_eq m) xs ≡ None → without_first m xs ≡ xs
none_taken_out m xs e =
    let t : nat_lt (position_or_len (message_eq m) xs) (length xs) ≡ false = no_place _ _ e in
    let low : length xs ≤ position_or_len (message_eq m) xs = grind (arith, nat_tests) in
    stays_there m xs low
