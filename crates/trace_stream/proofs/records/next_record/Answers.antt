use Rattle.std.proofs.Common.{sym, ◌∙◌}
use Rattle.trace_stream.proofs.KindsLifted.{lift_found_later}
use Rattle.trace_stream.proofs.records.next_record.Goals as goal

pub returns-else-begins : goal.returns-else-begins
returns-else-begins c =
    lift_found_later c.args.version c.args.bytes.now _ c.later_record.result (sym c.begins.ensures ∙ c.if-begins.false) c.later_record.ensures

pub returns-then-begins : goal.returns-then-begins
returns-then-begins c = c.opening_record.ensures c.args.version
