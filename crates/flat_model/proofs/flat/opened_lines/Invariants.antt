-- The lines below have their bytes.
use Rattle.std.proofs.Common.{◌≡◌, []}
use Rattle.flat_model.specs.Histories.{flat_lines}
use Rattle.flat_model.proofs.flat.opened_lines.Given as goal

abbrev pub invariant-loop-line : goal.invariant-loop-line
invariant-loop-line l = l.lines.items ≡ flat_lines l.line l.opening []
