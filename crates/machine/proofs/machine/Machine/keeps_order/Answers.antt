-- S0 asks of an operation, which is of a host.
use Rattle.std.proofs.Common.{ap, sym, ◌∙◌}
use Rattle.coherence_model.specs.Rules.{s0_stream_order}
use Rattle.coherence_model.specs.Traces.{events_of}
use Rattle.machine.proofs.Judged.{operation_is_of_host}
use Rattle.machine.proofs.machine.Machine.keeps_order.Goals as goal

pub is_next_of-requires : goal.is_next_of-requires
is_next_of-requires c = operation_is_of_host c.args.self.now c.args.event.now _ _ _ c.requires c.in-Op.is

pub returns-in-Op : goal.returns-in-Op
returns-in-Op c = record {
  order = λ setup opening t stands.
      c.is_next_of.ensures.order setup opening t stands c.in-Op.op ∙ ap (λ x. s0_stream_order x (events_of c.args.event.now.agent t)) (sym c.in-Op.is);
}
