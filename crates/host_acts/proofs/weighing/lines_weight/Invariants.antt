-- The weight so far is that of the lines so far.
use Rattle.std.proofs.Common.{take, ◌*◌, ◌≡◌, ◌≤◌}
use Rattle.std.specs.Prelude.{sum_by}
use Rattle.coherence_model.specs.Stages.{Stage}
use Rattle.coherence_model.specs.Weight.{stage_weight}
use Rattle.host_record.specs.Tables.{place_or}
use Rattle.host_acts.proofs.weighing.lines_weight.Given as goal

abbrev pub invariant-loop-line : goal.invariant-loop-line
invariant-loop-line l = (l.weight ≡ sum_by (λ a. stage_weight (place_or Stage.New l.agent.kept.stages a)) (take l.line-index l.lines)) × (l.weight ≤ 255 * l.line-index)
