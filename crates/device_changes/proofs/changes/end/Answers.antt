-- The task may finish where the device may step so.
use Rattle.std.proofs.Common.{refl}
use Rattle.device_changes.proofs.Acts.{act_inside, finish_may}
use Rattle.device_changes.proofs.Heads.{finishes_alike}
use Rattle.device_changes.proofs.changes.end.Goals as goal

pub finish-requires-clause-may : goal.finish-requires-clause-may
finish-requires-clause-may c =
    let may = act_inside _ _ _ _ _ _ c.tables.view_is refl refl c.requires in
    finishes_alike c.args.tables.now.kept.memory c.args.decision c.args.line.0 _ _ _ (finish_may _ _ c.args.line _ may)
