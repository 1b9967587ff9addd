-- The lines of a block.
use Rattle.std.specs.Prelude.{ℕ, Bool, List, map, ◌+◌, ◌-◌, ◌%◌, ◌&&◌, nat_lt, nat_le}
use Rattle.cxl_message.specs.declared.opcodes.Span.{Span}
use Rattle.cxl_message.specs.Lists.{below}
use Rattle.cxl_message.specs.Codes.{span_len}

-- the lines of the block that begins at a line, ascending
abbrev pub lines_of : ℕ → Span → List ℕ
lines_of first span = map (λ k. first + k) (below (span_len span))

-- whether the block that begins at a line has the line a
abbrev pub covers : ℕ → Span → ℕ → Bool
covers first span a = nat_le first a && nat_lt a (first + span_len span)

-- the first line of the aligned block of n lines that has line a (own rule)
abbrev pub aligned : ℕ → ℕ → ℕ
aligned n a = a - a % n
