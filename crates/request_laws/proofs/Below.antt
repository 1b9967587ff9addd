-- Tests over the numbers below a bound.
use Rattle.std.proofs.Common.{◌≡◌, ℕ, zero, suc, ◌+◌, ◌≤◌, ◌<◌, Bool, true, false, refl, sym, subst, arith, ◌⊎◌, inl, inr}
use Rattle.std.specs.List.{list_all, list_any, range_with_len}
use Rattle.std.proofs.lemmas.Bool.{and_from, false≢true, or_cases, or_left, or_right}
use Rattle.cxl_message.specs.Lists.{below}

here_or_later : (a x : ℕ) → a ≤ x → (a ≡ x) ⊎ (a + 1 ≤ x)
here_or_later a x h = grind arith

any_from : (p : ℕ → Bool) (a n x : ℕ) → a ≤ x → x < a + n → p x ≡ true → list_any p (range_with_len a n) ≡ true
any_from p a zero x least most h = absurd (omega arith)
any_from p a (suc n) x least most h =
    elim (here_or_later a x least) [
      | inl same ↦ or_left (p a) (list_any p (range_with_len (a + 1) n)) (subst (λ y. p y ≡ true) (sym same) h)
      | inr later ↦ or_right (p a) (list_any p (range_with_len (a + 1) n)) (any_from p (a + 1) n x later (omega arith) h)
    ]

pub any_below : (p : ℕ → Bool) (n x : ℕ) → x < n → p x ≡ true → list_any p (below n) ≡ true
any_below p n x less h = any_from p 0 n x (omega arith) (omega arith) h

-- a number below the bound that passes
pub record Passes (p : ℕ → Bool) (a n : ℕ) : Type 0 where
  pub x : ℕ
  pub least : a ≤ x
  pub most : x < a + n
  pub passes : p x ≡ true

passing_from : (p : ℕ → Bool) (a n : ℕ) → list_any p (range_with_len a n) ≡ true → Passes p a n
passing_from p a zero h = absurd (false≢true h)
passing_from p a (suc n) h =
    elim (or_cases (p a) (list_any p (range_with_len (a + 1) n)) h) [
      | inl here ↦ record { x = a; least = omega arith; most = omega arith; passes = here }
      | inr later ↦
          let rest = passing_from p (a + 1) n later in
          let least = rest.least in
          let most = rest.most in
          record { x = rest.x; least = omega arith; most = omega arith; passes = rest.passes }
    ]

pub passing_below : (p : ℕ → Bool) (n : ℕ) → list_any p (below n) ≡ true → (x : ℕ) × (x < n) × (p x ≡ true)
passing_below p n h = let some = passing_from p 0 n h in let most = some.most in (some.x, omega arith, some.passes)

all_from : (p : ℕ → Bool) (a n : ℕ) → ((x : ℕ) → a ≤ x → x < a + n → p x ≡ true) → list_all p (range_with_len a n) ≡ true
all_from p a zero h = refl
all_from p a (suc n) h =
    and_from (p a) (list_all p (range_with_len (a + 1) n)) (h a (omega arith) (omega arith)) (all_from p (a + 1) n (λ x least most. h x (omega arith) (omega arith)))

pub all_below : (p : ℕ → Bool) (n : ℕ) → ((x : ℕ) → x < n → p x ≡ true) → list_all p (below n) ≡ true
all_below p n h = all_from p 0 n (λ x least most. h x (omega arith))

-- tests that hold together are the same
pub both_same : (b c : Bool) → (b ≡ true → c ≡ true) → (c ≡ true → b ≡ true) → b ≡ c
both_same true true f g = refl
both_same true false f g = sym (f refl)
both_same false true f g = g refl
both_same false false f g = refl
