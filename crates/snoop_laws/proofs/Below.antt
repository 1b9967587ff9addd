-- Counts and tests over the numbers below a bound.
use Rattle.std.proofs.Common.{◌≡◌, ℕ, zero, suc, ◌+◌, ◌≤◌, ◌<◌, Bool, true, false, cond, count_by, refl, sym, ◌∙◌, ap, subst, arith, inl, inr}
use Rattle.std.specs.Prelude.{◌==◌}
use Rattle.std.specs.List.{list_any, range_with_len}
use Rattle.std.proofs.lemmas.Bool.{cases_eq, eq-eqb, eqb-true, false≢true, ne_eqb, or_cases, or_left, or_right}
use Rattle.cxl_message.specs.Lists.{below}
use Rattle.snoop_laws.proofs.Counts.{count-cons, counts_alike, times}

any_from : (p : ℕ → Bool) (a n x : ℕ) → a ≤ x → x < a + n → p x ≡ true → list_any p (range_with_len a n) ≡ true
any_from p a zero x least most h = absurd (omega arith)
any_from p a (suc n) x least most h = elim (cases_eq a x) [
  | inl same ↦ or_left (p a) (list_any p (range_with_len (a + 1) n)) (subst (λ y. p y ≡ true) (sym same) h)
  | inr differ ↦ or_right (p a) (list_any p (range_with_len (a + 1) n)) (any_from p (a + 1) n x (omega arith) (omega arith) h)
]

pub any_below : (p : ℕ → Bool) (n x : ℕ) → x < n → p x ≡ true → list_any p (below n) ≡ true
any_below p n x less h = any_from p 0 n x (omega arith) (omega arith) h

-- a number below the bound that passes
pub record Passes (p : ℕ → Bool) (bound : ℕ) : Type 0 where
  pub x : ℕ
  pub less : x < bound
  pub passes : p x ≡ true

passing_from : (p : ℕ → Bool) (a n : ℕ) → list_any p (range_with_len a n) ≡ true → Passes p (a + n)
passing_from p a zero h = absurd (false≢true h)
passing_from p a (suc n) h = elim (or_cases (p a) (list_any p (range_with_len (a + 1) n)) h) [
  | inl here ↦ record { x = a; less = omega arith; passes = here }
  | inr later ↦ (let rest = passing_from p (a + 1) n later in let less = rest.less in record { x = rest.x; less = omega arith; passes = rest.passes })
]

pub passing_below : (p : ℕ → Bool) (n : ℕ) → list_any p (below n) ≡ true → Passes p n
passing_below p n h = let some = passing_from p 0 n h in let less = some.less in record { x = some.x; less = omega arith; passes = some.passes }

times_before : (f a n : ℕ) → f < a → times f (range_with_len a n) ≡ 0
times_before f a zero less = refl
times_before f a (suc n) less =
    let cons = count-cons (λ y. f == y) a (range_with_len (a + 1) n) in
    let here = ap (λ b. cond {A = ℕ} b 1 0) (ne_eqb f a (λ same. omega arith)) in
    let rest = times_before f (a + 1) n (omega arith) in
    omega arith

times_from : (f a n : ℕ) → a ≤ f → f < a + n → times f (range_with_len a n) ≡ 1
times_from f a zero least most = absurd (omega arith)
times_from f a (suc n) least most =
    let cons = count-cons (λ y. f == y) a (range_with_len (a + 1) n) in
    elim (cases_eq f a) [
      | inl same ↦ (
          let here = ap (λ b. cond {A = ℕ} b 1 0) (eq-eqb f a same) in
          let rest = times_before f (a + 1) n (omega arith) in
          omega arith
          )
      | inr differ ↦ (
          let here = ap (λ b. cond {A = ℕ} b 1 0) (ne_eqb f a differ) in
          let rest = times_from f (a + 1) n (omega arith) (omega arith) in
          omega arith
          )
    ]

-- tests that hold together are the same
pub both_same : (b c : Bool) → (b ≡ true → c ≡ true) → (c ≡ true → b ≡ true) → b ≡ c
both_same true true f g = refl
both_same true false f g = sym (f refl)
both_same false true f g = g refl
both_same false false f g = refl

-- a test that one number below the bound passes, and no other, counts one
pub one_counted : (p : ℕ → Bool) (n f : ℕ) → f < n → p f ≡ true → ((g : ℕ) → p g ≡ true → f ≡ g) → count_by p (below n) ≡ 1
one_counted p n f less passes only =
    counts_alike p (λ g. f == g) (below n) (λ g there. both_same (p g) (f == g) (λ h. eq-eqb f g (only g h)) (λ h. subst (λ x. p x ≡ true) (eqb-true f g h) passes))
    ∙ times_from f 0 n (omega arith) (omega arith)
