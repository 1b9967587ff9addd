-- The answer for a line, at the place of the snoop that has it.
use Rattle.std.proofs.Common.{Bool, List, None, Option, Some, [], ap, arith, cond, false, length, nat_lt, refl, subst, suc, sym, true, zero, ℕ, ◌+◌, ◌<◌, ◌∙◌, ◌∷◌, ◌≡◌, ◌≤◌}
use Rattle.std.specs.Prelude.{not, position, remove, slice_index_or, slice_set, ◌++◌, ◌==◌}
use Rattle.std.specs.List.{position_or_len}
use Rattle.std.proofs.lemmas.Bool.{eqb-true, false≢true}
use Rattle.std.proofs.lemmas.Bool.Decides.{nat_tests}
use Rattle.std.proofs.lemmas.Option.{none-some, same_Some}
use Rattle.cxl_message.specs.Lists.{is_in, without}
use Rattle.coherence_model.specs.Snoops.{Snoop, snoop_left, snoops_after_answer}
use Rattle.held_snoops.specs.Held.{answered, has_no_other, no_snoop}

-- whether a snoop has a line without an answer
abbrev has : ℕ → Snoop → Bool
has a s = is_in a s.unanswered

left_none : (s : Snoop) (ls : List ℕ) → (length ls == 0) ≡ true → snoop_left s ls ≡ []
left_none s [] is = refl
left_none s (b ∷ bs) is = let empty : suc (length bs) ≡ 0 = eqb-true (length (b ∷ bs)) 0 is in absurd (omega arith)

left_some : (s : Snoop) (ls : List ℕ) → (length ls == 0) ≡ false → snoop_left s ls ≡ record s { unanswered = ls } ∷ []
left_some s [] is = absurd (false≢true (sym is))
left_some s (b ∷ bs) is = refl

-- the snoop at a place
abbrev at : List Snoop → ℕ → Snoop
at ss k = slice_index_or ss k no_snoop

-- the snoop goes
gone_step : (b : Bool) (a n : ℕ) (s : Snoop) (ss : List Snoop) → (n < length ss → has_no_other a (at ss n) ≡ true → remove ss n ≡ snoops_after_answer a ss)
    → cond (not b) (1 + n) 0 < length (s ∷ ss) → has_no_other a (at (s ∷ ss) (cond (not b) (1 + n) 0)) ≡ true
    → remove (s ∷ ss) (cond (not b) (1 + n) 0) ≡ cond b (snoop_left s (without a s.unanswered) ++ ss) (s ∷ snoops_after_answer a ss)
gone_step true a n s ss rest low is = ap (λ l. l ++ ss) (sym (left_none s (without a s.unanswered) is))
gone_step false a n s ss rest low is =
    let e : 1 + n ≡ suc n = omega arith in
    let below : n < length ss = omega arith in
    let there : has_no_other a (at (s ∷ ss) (suc n)) ≡ true = ap (λ k. has_no_other a (at (s ∷ ss) k)) (sym e) ∙ is in
    subst (λ k. remove (s ∷ ss) k ≡ s ∷ snoops_after_answer a ss) (sym e) (ap (λ l. s ∷ l) (rest below there))

gone_there : (a : ℕ) (ss : List Snoop) → position_or_len (has a) ss < length ss → has_no_other a (at ss (position_or_len (has a) ss)) ≡ true → remove ss (position_or_len (has a) ss) ≡ snoops_after_answer a ss
gone_there a [] low is = absurd (omega arith)
gone_there a (s ∷ ss) low is = gone_step (has a s) a (position_or_len (has a) ss) s ss (gone_there a ss) low is

-- the snoop stays with the lines that are left
kept_step : (b : Bool) (a n : ℕ) (s : Snoop) (ss : List Snoop)
    → (n < length ss → has_no_other a (at ss n) ≡ false → slice_set ss n (answered a (at ss n)) ≡ snoops_after_answer a ss)
    → cond (not b) (1 + n) 0 < length (s ∷ ss) → has_no_other a (at (s ∷ ss) (cond (not b) (1 + n) 0)) ≡ false
    → slice_set (s ∷ ss) (cond (not b) (1 + n) 0) (answered a (at (s ∷ ss) (cond (not b) (1 + n) 0))) ≡ cond b (snoop_left s (without a s.unanswered) ++ ss) (s ∷ snoops_after_answer a ss)
kept_step true a n s ss rest low is = ap (λ l. l ++ ss) (sym (left_some s (without a s.unanswered) is))
kept_step false a n s ss rest low is =
    let e : 1 + n ≡ suc n = omega arith in
    let below : n < length ss = omega arith in
    let there : has_no_other a (at (s ∷ ss) (suc n)) ≡ false = ap (λ k. has_no_other a (at (s ∷ ss) k)) (sym e) ∙ is in
    subst (λ k. slice_set (s ∷ ss) k (answered a (at (s ∷ ss) k)) ≡ s ∷ snoops_after_answer a ss) (sym e) (ap (λ l. s ∷ l) (rest below there))

kept_there : (a : ℕ) (ss : List Snoop) → position_or_len (has a) ss < length ss → has_no_other a (at ss (position_or_len (has a) ss)) ≡ false
    → slice_set ss (position_or_len (has a) ss) (answered a (at ss (position_or_len (has a) ss))) ≡ snoops_after_answer a ss
kept_there a [] low is = absurd (omega arith)
kept_there a (s ∷ ss) low is = kept_step (has a s) a (position_or_len (has a) ss) s ss (kept_there a ss) low is

-- no snoop has the line
stays_step : (b : Bool) (a n : ℕ) (s : Snoop) (ss : List Snoop) → (length ss ≤ n → snoops_after_answer a ss ≡ ss) → length (s ∷ ss) ≤ cond (not b) (1 + n) 0
    → cond b (snoop_left s (without a s.unanswered) ++ ss) (s ∷ snoops_after_answer a ss) ≡ s ∷ ss
stays_step true a n s ss rest high = absurd (omega arith)
stays_step false a n s ss rest high = let above : length ss ≤ n = omega arith in ap (λ l. s ∷ l) (rest above)

stays_there : (a : ℕ) (ss : List Snoop) → length ss ≤ position_or_len (has a) ss → snoops_after_answer a ss ≡ ss
stays_there a [] high = refl
stays_there a (s ∷ ss) high = stays_step (has a s) a (position_or_len (has a) ss) s ss (stays_there a ss) high

-- ---- at the place that `position` finds

at_place : (b : Bool) (k i : ℕ) → cond b (Some k) None ≡ Some i → (b ≡ true) × (k ≡ i)
at_place true k i e = (refl, same_Some k i e)
at_place false k i e = absurd (none-some i e)

no_place : (b : Bool) (k : ℕ) → cond b (Some k) None ≡ None → b ≡ false
no_place true k e = absurd (none-some k (sym e))
no_place false k e = refl

found_low : (a : ℕ) (ss : List Snoop) (i : ℕ) → position (λ s. is_in a s.unanswered) ss ≡ Some i → (position_or_len (has a) ss ≡ i) × (position_or_len (has a) ss < length ss)
found_low a ss i found =
    let f = at_place (nat_lt (position_or_len (has a) ss) (length ss)) (position_or_len (has a) ss) i found in
    let t : nat_lt (position_or_len (has a) ss) (length ss) ≡ true = f.0 in
    let low : position_or_len (has a) ss < length ss = grind (arith, nat_tests) in
    (f.1, low)

pub below : (a : ℕ) (ss : List Snoop) (i : ℕ) → position (λ s. is_in a s.unanswered) ss ≡ Some i → i < length ss
below a ss i found = let f = found_low a ss i found in subst (λ k. k < length ss) f.0 f.1

pub gone : (a : ℕ) (ss : List Snoop) (i : ℕ) → position (λ s. is_in a s.unanswered) ss ≡ Some i → has_no_other a (slice_index_or ss i no_snoop) ≡ true → remove ss i ≡ snoops_after_answer a ss
gone a ss i found none =
    let f = found_low a ss i found in ap (remove ss) (sym f.0) ∙ gone_there a ss f.1 (ap (λ k. has_no_other a (at ss k)) f.0 ∙ none)

pub kept : (a : ℕ) (ss : List Snoop) (i : ℕ) → position (λ s. is_in a s.unanswered) ss ≡ Some i → has_no_other a (slice_index_or ss i no_snoop) ≡ false
    → slice_set ss i (answered a (slice_index_or ss i no_snoop)) ≡ snoops_after_answer a ss
kept a ss i found some =
    let f = found_low a ss i found in
    ap (λ k. slice_set ss k (answered a (at ss k))) (sym f.0) ∙ kept_there a ss f.1 (ap (λ k. has_no_other a (at ss k)) f.0 ∙ some)

pub stays : (a : ℕ) (ss : List Snoop) → position (λ s. is_in a s.unanswered) ss ≡ None → ss ≡ snoops_after_answer a ss
stays a ss found =
    let t : nat_lt (position_or_len (has a) ss) (length ss) ≡ false = no_place _ _ found in
    let high : length ss ≤ position_or_len (has a) ss = grind (arith, nat_tests) in
    sym (stays_there a ss high)
