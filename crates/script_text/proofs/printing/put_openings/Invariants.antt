use Rattle.std.proofs.Common.{◌≡◌, ◌++◌, drop, map}
use Rattle.std.specs.List.{flat_map}
use Rattle.script_text.specs.Spelling.{line_bytes, open_line}
use Rattle.script_text.proofs.printing.put_openings.Given as goal

abbrev pub invariant-loop-line : goal.invariant-loop-line
invariant-loop-line l = l.out.items ++ flat_map line_bytes (map open_line (drop l.line-index l.line-items)) ≡ l.fn.out.items ++ flat_map line_bytes (map open_line l.line-items)
