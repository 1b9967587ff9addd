-- How the first lines of memory get their slots (own rule).
use Rattle.std.specs.Prelude.{List, map, sum_by, ℕ, ◌≡◌}
use Rattle.cxl_message.specs.declared.identifiers.Bytes64.{Bytes64}
use Rattle.cxl_message.specs.declared.identifiers.Line.{Line}
use Rattle.cxl_message.specs.Lists.{below}
use Rattle.cxl_message.specs.Opening.{bytes_at}
use Rattle.line_pool.specs.Pools.{Pool, line_of}
use Rattle.device_lines.specs.Buffered.{bytes_of}
use Rattle.device_lines.specs.Region.{is_slot, one_in_use}

-- the first n lines have a slot each, with the bytes of the opening, and no other slot is in use (own rule)
pub record IsFilled (pool : Pool) (lines : List ℕ) (opening : List (Line × Bytes64)) (n : ℕ) : Type 0 where
  pub named : (s : ℕ) → sum_by (is_slot s) lines ≡ one_in_use (line_of pool s)
  pub bytes : map (bytes_of pool) lines ≡ map (bytes_at opening) (below n)
