-- No host so far is Asked or to be asked.
use Rattle.std.proofs.Common.{◌≡◌, true}
use Rattle.device_record.specs.Answers.{is_finished}
use Rattle.device_rows.proofs.task_rows.is_finished.Given as goal

abbrev pub invariant-loop-host : goal.invariant-loop-host
invariant-loop-host l = is_finished l.host l.filter.rows l.task ≡ true
