use Rattle.std.proofs.Common.{sym, ◌∙◌}
use Rattle.trace_stream.proofs.KindsLifted.{lift_found_next}
use Rattle.trace_stream.proofs.records.named_record.Goals as goal

pub returns-else-begins : goal.returns-else-begins
returns-else-begins c =
    lift_found_next c.args.bytes.now _ c.next_record.result (sym c.begins.ensures ∙ c.if-begins.false) c.next_record.ensures
