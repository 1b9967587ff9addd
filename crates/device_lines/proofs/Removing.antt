-- The first message that has a tag, taken out at its place.
use Rattle.std.proofs.Common.{◌≡◌, ℕ, zero, suc, ◌+◌, Bool, true, false, cond, List, [], ◌∷◌, length, Some, None, refl, ap, sym, ◌∙◌, subst, arith, nat_lt, ◌<◌, ◌≤◌}
use Rattle.std.specs.Prelude.{position, remove, not}
use Rattle.std.specs.List.{position_or_len}
use Rattle.std.proofs.lemmas.Bool.Decides.{nat_tests}
use Rattle.device_lines.specs.declared.buffers.Write.{Write}
use Rattle.device_lines.specs.Buffered.{has_write_tag, without_write}
use Rattle.device_lines.proofs.Sums.{without_by}
use Rattle.device_lines.proofs.Regions.{without_same}

removed_step : {X : Type 0} (b : Bool) (x : X) (xs r : List X) (n : ℕ) → (n < length xs → remove xs n ≡ r) → cond (not b) (1 + n) 0 < length (x ∷ xs) → remove (x ∷ xs) (cond (not b) (1 + n) 0) ≡ cond b xs (x ∷ r)
removed_step true x xs r n ih h = refl
removed_step {X} false x xs r n ih h =
    let e : 1 + n ≡ suc n = omega arith in
    let low : n < length xs = omega arith in
    let P : ℕ → Type 0 = λ k. remove (x ∷ xs) k ≡ x ∷ r in
    subst P (sym e) (ap {B = List X} (λ l. x ∷ l) (ih low))

-- what is taken out at the first place that passes is the first member that passes
removed_there : {X : Type 0} (p : X → Bool) (xs : List X) → position_or_len p xs < length xs → remove xs (position_or_len p xs) ≡ without_by p xs
removed_there p [] h = absurd (omega arith)
removed_there p (x ∷ xs) h = removed_step (p x) x xs (without_by p xs) (position_or_len p xs) (removed_there p xs) h

stays_step : {X : Type 0} (b : Bool) (x : X) (xs r : List X) (n : ℕ) → (length xs ≤ n → r ≡ xs) → length (x ∷ xs) ≤ cond (not b) (1 + n) 0 → cond b xs (x ∷ r) ≡ x ∷ xs
stays_step true x xs r n ih h = absurd (omega arith)
stays_step {X} false x xs r n ih h = let low : length xs ≤ n = omega arith in ap {B = List X} (λ l. x ∷ l) (ih low)

-- where no member passes nothing is taken out
stays_there : {X : Type 0} (p : X → Bool) (xs : List X) → length xs ≤ position_or_len p xs → without_by p xs ≡ xs
stays_there p [] h = refl
stays_there p (x ∷ xs) h = stays_step (p x) x xs (without_by p xs) (position_or_len p xs) (stays_there p xs) h

at_place : (b : Bool) (k i : ℕ) → cond b (Some k) None ≡ Some i → (b ≡ true) × (k ≡ i)
at_place true k i e = (refl, cc)
at_place false k i e = absurd cc

no_place : (b : Bool) (k : ℕ) → cond b (Some k) None ≡ None → b ≡ false
no_place true k e = absurd cc
no_place false k e = refl

-- the place that was found taken out leaves the list without the first member that passes
pub taken_out : {X : Type 0} (p : X → Bool) (xs : List X) (i : ℕ) → position p xs ≡ Some i → remove xs i ≡ without_by p xs
taken_out p xs i e =
    let f = at_place (nat_lt (position_or_len p xs) (length xs)) (position_or_len p xs) i e in
    let t : nat_lt (position_or_len p xs) (length xs) ≡ true = f.0 in
    let low : position_or_len p xs < length xs = grind (arith, nat_tests) in
    ap (λ k. remove xs k) (sym f.1) ∙ removed_there p xs low

-- where no place was found the list stays
pub all_stays : {X : Type 0} (p : X → Bool) (xs : List X) → position p xs ≡ None → without_by p xs ≡ xs
all_stays p xs e =
    let t : nat_lt (position_or_len p xs) (length xs) ≡ false = no_place _ _ e in
    let low : length xs ≤ position_or_len p xs = grind (arith, nat_tests) in
    stays_there p xs low

-- the place of the first message with a tag taken out
pub write_taken_out : (tag : ℕ) (ws : List Write) (i : ℕ) → position (has_write_tag tag) ws ≡ Some i → remove ws i ≡ without_write tag ws
write_taken_out tag ws i found = taken_out (has_write_tag tag) ws i found ∙ sym (without_same tag ws)

-- where there is none
pub no_write_taken_out : (tag : ℕ) (ws : List Write) → position (has_write_tag tag) ws ≡ None → ws ≡ without_write tag ws
no_write_taken_out tag ws none = sym (without_same tag ws ∙ all_stays (has_write_tag tag) ws none)
