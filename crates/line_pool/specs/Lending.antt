-- What a slot holds after its bytes were lent (own rule).
use Rattle.std.specs.Prelude.{ℕ, List, Some, slice_set}
use Rattle.std.specs.Borrow.{Lends, MutBor, Fml, Array, u8}
use Rattle.line_pool.specs.Pools.{Pool}
use Rattle.line_pool.specs.contracts.pools.LinePool.{the_row}

-- the pool with this line in the slot (own rule)
abbrev pub with_line : Pool → ℕ → List ℕ → Pool
with_line pool slot line = record pool { slots = slice_set pool.slots slot (Some line) }

-- the pool ends with the last value behind the result in the slot (own rule)
abbrev pub LendsLine : MutBor Pool → ℕ → MutBor (List ℕ) → Fml
LendsLine pool slot result = Lends the_row (Array u8 64) pool result (with_line pool.now slot)
