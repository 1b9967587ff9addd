-- Which lines of a snooped block have no answer yet.
use Rattle.std.specs.Prelude.{Bool, List, length, true, ℕ, ◌==◌}
use Rattle.std.specs.List.{list_any}
use Rattle.cxl_message.specs.declared.opcodes.Span.{Span}
use Rattle.cxl_message.specs.Codes.{span_len}
use Rattle.cxl_message.specs.Lists.{without}
use Rattle.snoop_filter.specs.declared.blocks.Block.{Block}
use Rattle.snoop_filter.specs.Victims.{block_lines}

-- a block that was asked about, and those of its lines that have no answer, ascending (own rule)
pub record LeftRecord : Type 0 where
  pub block : Block
  pub left : List ℕ

-- no line has an answer (own rule)
abbrev pub none_answered : Block → LeftRecord
none_answered b = record { block = b; left = block_lines b }

-- the lines left after the answer for line a (own rule)
abbrev pub line_answered : ℕ → List ℕ → List ℕ
line_answered a left = without a left

-- whether all lines of a block of some length are left (own rule)
abbrev pub are_all_left : Span → List ℕ → Bool
are_all_left span left = length left == span_len span

-- whether some line is left (own rule)
abbrev pub some_left : List ℕ → Bool
some_left left = list_any (λ a. true) left
