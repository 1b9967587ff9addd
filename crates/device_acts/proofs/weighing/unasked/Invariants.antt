-- The hosts so far are counted.
use Rattle.std.proofs.Common.{◌≡◌, ◌≤◌}
use Rattle.std.specs.Prelude.{count_by, not, ◌&&◌}
use Rattle.cxl_message.specs.Lists.{below}
use Rattle.device_record.specs.Answers.{is_asked_by, is_wanted}
use Rattle.device_acts.proofs.weighing.unasked.Given as goal

abbrev pub invariant-loop-host : goal.invariant-loop-host
invariant-loop-host l = (l.count ≡ count_by (λ g. is_wanted l.filter.rows l.task g && not (is_asked_by g l.task)) (below l.host)) × (l.count ≤ l.host)
