-- The task that is found begins with the line of the answer's BITag.
use Rattle.std.proofs.Common.{◌∙◌}
use Rattle.device_rows.proofs.Hosts.{answered_of}
use Rattle.device_rows.proofs.deciding.answers.Goals as goal

pub returns-in-Some : goal.returns-in-Some
returns-in-Some c =
    c.is_answer_to.ensures ∙ answered_of c.args.op c.args.host c.args.low c.args.first c.args.tables.now.kept.tasks c.in-Some.task.now c.in-Some.ensures
