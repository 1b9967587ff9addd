-- The block that a full filter evicts.
use Rattle.std.specs.Prelude.{Bool, List, Option, false, find, if◌then◌else◌, not, option_map, ℕ}
use Rattle.std.specs.List.{list_all}
use Rattle.std.specs.Option.{option_map_or}
use Rattle.cxl_message.specs.declared.opcodes.Span.{Span}
use Rattle.cxl_message.specs.Spans.{aligned, lines_of}
use Rattle.snoop_filter.specs.declared.blocks.Block.{Block}
use Rattle.snoop_filter.specs.Rows.{FilterRow, row_at}

-- the block with this first line (own rule)
abbrev pub block_from : ℕ → Span → Block
block_from first span = record { first = record { 0 = first }; span = span }

-- the lines of a block, ascending (own rule)
abbrev pub block_lines : Block → List ℕ
block_lines b = lines_of b.first.0 b.span

-- whether line a has a row that isn't held (own rule)
abbrev pub is_idle_in : List FilterRow → ℕ → Bool
is_idle_in rows a = option_map_or (λ r. not r.held) (row_at a rows) false

-- whether each line of a block has a row that isn't held (own rule)
abbrev pub is_idle_block : List FilterRow → ℕ → Span → Bool
is_idle_block rows first span = list_all (is_idle_in rows) (lines_of first span)

-- the largest aligned block of 4, 2 or 1 lines with line a of which each line has a row that isn't held; line a has one (own rule)
abbrev pub idle_block_around : List FilterRow → ℕ → Block
idle_block_around rows a =
    if is_idle_block rows (aligned 4 a) Span.Four then block_from (aligned 4 a) Span.Four
    else (if is_idle_block rows (aligned 2 a) Span.Two then block_from (aligned 2 a) Span.Two else block_from a Span.One)

-- the victim: the block around the line of the oldest row that isn't held (own rule)
abbrev pub victim_in : List FilterRow → Option Block
victim_in rows = option_map (λ r. idle_block_around rows r.line) (find (λ r. not r.held) rows)
