-- A task is over four lines at most.
use Rattle.std.proofs.Common.{◌≤◌, ℕ, subst, sym}
use Rattle.device_acts.proofs.Members.{few_lines}
use Rattle.device_acts.proofs.weighing.task_weight.Goals as goal

pub kind_weight-requires : goal.kind_weight-requires
kind_weight-requires c = subst (λ (n : ℕ). n ≤ 4) (sym c.span_len.ensures.lines) (few_lines c.block.result.span)
