-- As many of one thing.
use Rattle.std.proofs.Common.{◌≡◌, ℕ, zero, suc, ◌+◌, List, [], ◌∷◌, ◌++◌, refl, ap, ◌∙◌, arith}
use Rattle.std.specs.Prelude.{replicate}

replicate_last : {X : Type 0} (n : ℕ) (x : X) → replicate (suc n) x ≡ replicate n x ++ x ∷ []
replicate_last zero x = refl
replicate_last {X} (suc n) x = ap {B = List X} (λ l. x ∷ l) (replicate_last n x)

-- one more of the same
pub replicate_more : {X : Type 0} (n : ℕ) (x : X) → replicate (n + 1) x ≡ replicate n x ++ x ∷ []
replicate_more n x = let e : n + 1 ≡ suc n = omega arith in ap (λ k. replicate k x) e ∙ replicate_last n x
