-- The count so far is that of the snoops so far.
use Rattle.std.proofs.Common.{take, ◌*◌, ◌≡◌, ◌≤◌}
use Rattle.std.specs.Prelude.{sum_by}
use Rattle.host_acts.specs.Counting.{snoop_act_count_of}
use Rattle.host_acts.proofs.counting.act_count_for.Given as goal

abbrev pub invariant-loop-snoop : goal.invariant-loop-snoop
invariant-loop-snoop l = (l.count ≡ sum_by (snoop_act_count_of l.agent) (take l.snoop-index l.snoops)) × (l.count ≤ 4 * l.snoop-index)
