-- The row of an operation is that of its host.
use Rattle.std.proofs.Common.{ap, sym, ◌∙◌}
use Rattle.coherence_model.specs.Rows.{rule_of}
use Rattle.coherence_model.specs.Traces.{events_of}
use Rattle.machine.proofs.Judged.{operation_is_of_host}
use Rattle.machine.proofs.machine.Machine.row_of.Goals as goal

pub operation_row-requires : goal.operation_row-requires
operation_row-requires c = operation_is_of_host c.args.self.now c.args.event.now _ _ _ c.requires c.in-Op.is

pub returns-in-Op : goal.returns-in-Op
returns-in-Op c = record {
  rule = λ setup opening t stands. c.operation_row.ensures.rule setup opening t stands c.in-Op.stream c.in-Op.index ∙ ap (λ x. rule_of setup c.args.event.now.agent x (events_of c.args.event.now.agent t)) (sym c.in-Op.is);
}
