-- The step of the number is there.
use Rattle.machine.proofs.Chosen.{step_is_there, step_is_told}
use Rattle.machine.proofs.machine.Machine.perform.Goals as goal

pub unreachable-requires : goal.unreachable-requires
unreachable-requires c = step_is_there c.args.self.now c.args.k c.step_at.result c.step_at.ensures.some c.requires c.step_at.ensures.step c.in_default.is

pub perform_step-requires : goal.perform_step-requires
perform_step-requires c = step_is_told c.args.self.now c.args.k c.step_at.result c.in-Some.step c.in-Some.is c.step_at.ensures.step
