-- The act of the number is that of what is left of the number among what is left.
use Rattle.std.proofs.Common.{drop, ◌≡◌}
use Rattle.host_acts.specs.Counting.{line_act_of, nth_of}
use Rattle.host_acts.proofs.counting.line_act_at.Given as goal

abbrev pub invariant-loop-line : goal.invariant-loop-line
invariant-loop-line l = nth_of (line_act_of l.agent) (drop l.line-index l.lines) l.skip ≡ nth_of (line_act_of l.agent) l.lines l.k
