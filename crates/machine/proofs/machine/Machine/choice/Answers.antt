-- The step of the number is there, and its event is the next step.
use Rattle.std.proofs.Common.{Some, ap, sym, ◌∙◌}
use Rattle.machine.proofs.Chosen.{agent_is_there, event_is_next, event_is_there, step_is_there, step_is_told}
use Rattle.machine.proofs.machine.Machine.choice.Goals as goal

pub unreachable-requires : goal.unreachable-requires
unreachable-requires c = step_is_there c.args.self.now c.args.k c.step_at.result c.step_at.ensures.some c.requires c.step_at.ensures.step c.in_default.is

pub make-requires : goal.make-requires
make-requires c = agent_is_there c.args.self.now c.args.k c.in-Some.step c.step_at.ensures.some (step_is_told c.args.self.now c.args.k c.step_at.result c.in-Some.step c.in-Some.is c.step_at.ensures.step)

pub unreachable-requires-then-not-make : goal.unreachable-requires-then-not-make
unreachable-requires-then-not-make c =
    event_is_there c.args.self.now c.args.k c.in-Some.step c.make.result c.make.new.made c.step_at.ensures.some c.if-not-make.true (step_is_told c.args.self.now c.args.k c.step_at.result c.in-Some.step c.in-Some.is c.step_at.ensures.step) c.make.ensures.made

pub returns : goal.returns
returns c = record {
  picked = λ setup opening t stands.
      event_is_next c.args.self.now c.args.k c.in-Some.step c.make.result c.make.new.made (step_is_told c.args.self.now c.args.k c.step_at.result c.in-Some.step c.in-Some.is c.step_at.ensures.step) c.make.ensures.made setup opening t stands
      ∙ ap Some (sym c.event.ensures);
}
