use Rattle.std.proofs.Common.{◌≡◌, ◌++◌, drop, map}
use Rattle.std.specs.List.{flat_map}
use Rattle.script_text.specs.Spelling.{line_bytes, op_line}
use Rattle.script_text.proofs.printing.put_operations.Given as goal

abbrev pub invariant-loop-op : goal.invariant-loop-op
invariant-loop-op l = l.out.items ++ flat_map line_bytes (map op_line (drop l.op-index l.ops)) ≡ l.fn.out.items ++ flat_map line_bytes (map op_line l.ops)
