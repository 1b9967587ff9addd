use Rattle.std.proofs.Common.{◌≡◌, ◌++◌, ℕ, List}
use Rattle.std.specs.List.{flat_map}
use Rattle.cxl_view.specs.Tallies.{tally_line}
use Rattle.cxl_view.proofs.totals.put_lines.Given as goal

abbrev pub invariant-loop-line : goal.invariant-loop-line
invariant-loop-line l = (shown : List ℕ) × (l.out.items ≡ l.fn.out.items ++ shown) × (shown ++ flat_map tally_line l.line-iterator ≡ flat_map tally_line l.fn.on_lines.entries)
