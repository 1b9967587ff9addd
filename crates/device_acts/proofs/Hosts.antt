-- Tests over all hosts, by one of them.
use Rattle.std.proofs.Common.{◌≡◌, ℕ, zero, suc, ◌+◌, ◌<◌, ◌≤◌, Bool, true, false, [], ◌∷◌, ◌++◌, cond, refl, ap, sym, ◌∙◌, arith}
use Rattle.std.specs.Prelude.{count_by, sum_by, ◌&&◌, ◌||◌}
use Rattle.std.specs.Int.{from_bool}
use Rattle.std.specs.List.{list_all, list_any, range_with_len}
use Rattle.std.proofs.lemmas.Bool.{false≢true}
use Rattle.std.proofs.lemmas.List.Folds.{list_all-append, list_any-append}
use Rattle.std.proofs.lemmas.List.Sums.{sum_by-append, sum_by-cons}
use Rattle.cxl_message.specs.Lists.{below}

passes_by : (b c : Bool) → (b ≡ false → c ≡ true) → b || c ≡ true
passes_by true c rest = refl
passes_by false c rest = rest refl

later : (a k : ℕ) → a ≤ k → (k ≡ a → ⊥) → a + 1 ≤ k
later a k from other = omega (arith, from, other)

passes_from : (p : ℕ → Bool) (a n k : ℕ) → a ≤ k → k < a + n → p k ≡ true → list_any p (range_with_len a n) ≡ true
passes_from p a zero k from below passes = absurd (omega (arith, from, below))
passes_from p a (suc n) k from below passes =
    passes_by (p a) (list_any p (range_with_len (a + 1) n))
    (λ fails. passes_from p (a + 1) n k (later a k from (λ same. false≢true (sym fails ∙ ap p (sym same) ∙ passes))) (omega (arith, below)) passes)

-- where one host passes a test, some pass
pub passes_below : (p : ℕ → Bool) (n k : ℕ) → k < n → p k ≡ true → list_any p (below n) ≡ true
passes_below p n k low passes = passes_from p 0 n k (omega arith) (omega (arith, low)) passes

range_more : (a n : ℕ) → range_with_len a (suc n) ≡ range_with_len a n ++ (a + n) ∷ []
range_more a zero = let e : a ≡ a + 0 = omega arith in ap (λ k. k ∷ []) e
range_more a (suc n) =
    let e : (a + 1) + n ≡ a + suc n = omega arith in
    ap (λ l. a ∷ l) (range_more (a + 1) n ∙ ap (λ k. range_with_len (a + 1) n ++ k ∷ []) e)

-- the numbers below one more
pub below_one_more : (n : ℕ) → below (n + 1) ≡ below n ++ n ∷ []
below_one_more n =
    let e : n + 1 ≡ suc n = omega arith in
    let z : 0 + n ≡ n = omega arith in
    ap below e ∙ range_more 0 n ∙ ap (λ k. below n ++ k ∷ []) z

-- one host more fails a test that none before it passes
pub none_more : (p : ℕ → Bool) (n : ℕ) → list_any p (below n) ≡ false → p n ≡ false → list_any p (below (n + 1)) ≡ false
none_more p n before here = ap (list_any p) (below_one_more n) ∙ list_any-append p (below n) (n ∷ []) ∙ (λ i. before i || (here i || false))

and_true : (b c : Bool) → c ≡ true → b ≡ b && (c && true)
and_true false c is = refl
and_true true c is = sym (ap (λ (d : Bool). d && true) is)

-- one host more that passes a test changes nothing
pub all_same : (p : ℕ → Bool) (n : ℕ) → p n ≡ true → list_all p (below n) ≡ list_all p (below (n + 1))
all_same p n here = and_true (list_all p (below n)) (p n) here ∙ sym (ap (list_all p) (below_one_more n) ∙ list_all-append p (below n) (n ∷ []))

one_summed : (f : ℕ → ℕ) (n : ℕ) → sum_by f (n ∷ []) ≡ f n
one_summed f n = let e : f n + 0 ≡ f n = omega arith in sum_by-cons f n [] ∙ e

-- a sum over one host more
pub sum_more : (f : ℕ → ℕ) (n total part : ℕ) → total ≡ sum_by f (below n) → part ≡ f n → total + part ≡ sum_by f (below (n + 1))
sum_more f n total part before here =
    (λ i. before i + here i) ∙ sym (ap (sum_by f) (below_one_more n) ∙ sum_by-append f (below n) (n ∷ []) ∙ ap (λ k. sum_by f (below n) + k) (one_summed f n))

from_is : (b : Bool) → from_bool b ≡ cond b 1 0
from_is true = refl
from_is false = refl

-- a bool counts at most one
pub at_most_one : (b : Bool) → from_bool b ≤ 1
at_most_one true = omega arith
at_most_one false = omega arith

-- a count over one host more
pub count_more : (p : ℕ → Bool) (n total part : ℕ) (b : Bool) → total ≡ count_by p (below n) → part ≡ from_bool b → b ≡ p n → total + part ≡ count_by p (below (n + 1))
count_more p n total part b before here is =
    sum_more (λ g. cond (p g) 1 0) n total part before (here ∙ from_is b ∙ ap (λ (c : Bool). cond c 1 0) is)
