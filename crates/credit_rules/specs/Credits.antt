-- What is seen of a purse (own rule).
use Rattle.std.specs.Prelude.{ℕ}

-- how many credits are left in a purse, and how many there are at most (own rule)
pub record Credits : Type 0 where
  pub left : ℕ
  pub limit : ℕ
