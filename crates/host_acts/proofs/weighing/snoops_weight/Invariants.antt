-- The weight so far is that of the snoops so far.
use Rattle.std.proofs.Common.{take, ◌*◌, ◌≡◌, ◌≤◌}
use Rattle.std.specs.Prelude.{sum_by}
use Rattle.host_record.specs.Stands.{snoop_weight_in}
use Rattle.host_acts.proofs.weighing.snoops_weight.Given as goal

abbrev pub invariant-loop-snoop : goal.invariant-loop-snoop
invariant-loop-snoop l = (l.weight ≡ sum_by (snoop_weight_in l.agent.kept.stages) (take l.snoop-index l.snoops)) × (l.weight ≤ 1022 * l.snoop-index)
