-- Hosts below a number that pass a test.
use Rattle.std.proofs.Common.{◌≡◌, ℕ, zero, suc, ◌+◌, Bool, true, false, List, [], ◌∷◌, ◌++◌, cond, refl, ap, sym, ◌∙◌, arith}
use Rattle.std.specs.Prelude.{filter}
use Rattle.std.specs.List.{range_with_len}
use Rattle.cxl_message.specs.Lists.{below}

range_more : (a n : ℕ) → range_with_len a (suc n) ≡ range_with_len a n ++ (a + n) ∷ []
range_more a zero = let e : a ≡ a + 0 = omega arith in ap (λ k. k ∷ []) e
range_more a (suc n) =
    let e : (a + 1) + n ≡ a + suc n = omega arith in
    ap (λ l. a ∷ l) (range_more (a + 1) n ∙ ap (λ k. range_with_len (a + 1) n ++ k ∷ []) e)

below_more : (n : ℕ) → below (n + 1) ≡ below n ++ n ∷ []
below_more n =
    let e : n + 1 ≡ suc n = omega arith in
    let z : 0 + n ≡ n = omega arith in
    ap below e ∙ range_more 0 n ∙ ap (λ k. below n ++ k ∷ []) z

filter_by : (p : ℕ → Bool) (b : Bool) (x : ℕ) (xs : List ℕ) (n : ℕ) → filter p (xs ++ n ∷ []) ≡ filter p xs ++ cond (p n) (n ∷ []) [] → cond b (x ∷ filter p (xs ++ n ∷ [])) (filter p (xs ++ n ∷ [])) ≡ cond b (x ∷ filter p xs) (filter p xs) ++ cond (p n) (n ∷ []) []
filter_by p true x xs n rest = ap (λ l. x ∷ l) rest
filter_by p false x xs n rest = rest

filter_pushed : (p : ℕ → Bool) (xs : List ℕ) (n : ℕ) → filter p (xs ++ n ∷ []) ≡ filter p xs ++ cond (p n) (n ∷ []) []
filter_pushed p [] n = refl
filter_pushed p (x ∷ xs) n = filter_by p (p x) x xs n (filter_pushed p xs n)

-- one more host passes
pub one_more_asked : (p : ℕ → Bool) (n : ℕ) → p n ≡ true → filter p (below (n + 1)) ≡ filter p (below n) ++ n ∷ []
one_more_asked p n passes = ap (filter p) (below_more n) ∙ filter_pushed p (below n) n ∙ ap (λ b. filter p (below n) ++ cond b (n ∷ []) []) passes

nothing_more : (xs : List ℕ) → xs ++ [] ≡ xs
nothing_more [] = refl
nothing_more (x ∷ xs) = ap (λ l. x ∷ l) (nothing_more xs)

-- one more host doesn't pass
pub no_more_asked : (p : ℕ → Bool) (n : ℕ) → p n ≡ false → filter p (below (n + 1)) ≡ filter p (below n)
no_more_asked p n fails = ap (filter p) (below_more n) ∙ filter_pushed p (below n) n ∙ ap (λ b. filter p (below n) ++ cond b (n ∷ []) []) fails ∙ nothing_more (filter p (below n))
