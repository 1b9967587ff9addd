-- Each task lies within the lines.
use Rattle.std.proofs.Common.{List, subst, sym}
use Rattle.std.specs.Prelude.{All}
use Rattle.device_record.specs.Record.{TaskRecord}
use Rattle.device_state.specs.Agent.{AgentRecord}
use Rattle.device_acts.specs.Placed.{LiesWithin}
use Rattle.device_acts.proofs.Members.{all_within}
use Rattle.device_acts.proofs.weighing.weight.Goals as goal

pub tasks_weight-requires-clause-placed : goal.tasks_weight-requires-clause-placed
tasks_weight-requires-clause-placed c =
    subst (λ (ts : List TaskRecord). All (LiesWithin c.tables.inside.filter.lines) ts) (sym c.all.ensures)
    (subst (λ (d : AgentRecord). All (LiesWithin d.kept.filter.lines) d.kept.tasks) (sym c.tables.view_is) (all_within c.args.tables.now.setup c.args.tables.now.kept c.requires))
