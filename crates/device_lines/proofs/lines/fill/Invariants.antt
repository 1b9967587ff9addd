-- The first lines have their slots.
use Rattle.std.proofs.Common.{◌≡◌, ◌+◌}
use Rattle.device_lines.specs.Filled.{IsFilled}
use Rattle.device_lines.proofs.lines.fill.Given as goal

abbrev pub invariant-loop-line : goal.invariant-loop-line
invariant-loop-line l = IsFilled l.pool l.lines.items l.opening l.line × (l.pool.spare + l.line ≡ l.initial.pool.spare)
