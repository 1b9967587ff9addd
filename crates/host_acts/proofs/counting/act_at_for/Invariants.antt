-- The act of the number is that of what is left of the number among the snoops that are left.
use Rattle.std.proofs.Common.{drop, ◌≡◌}
use Rattle.host_acts.specs.Counting.{pick_of}
use Rattle.host_acts.proofs.counting.act_at_for.Given as goal

abbrev pub invariant-loop-snoop : goal.invariant-loop-snoop
invariant-loop-snoop l = pick_of l.agent (drop l.snoop-index l.snoops) l.skip ≡ pick_of l.agent l.snoops l.k
