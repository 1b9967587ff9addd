-- The host of a take exists.
use Rattle.machine.proofs.Judged.{take_there}
use Rattle.machine.proofs.machine.Machine.may_take.Goals as goal

pub has_takeable-requires : goal.has_takeable-requires
has_takeable-requires c = take_there c.args.self.now.setup c.args.event.now _ _ c.requires c.in-Take.is
