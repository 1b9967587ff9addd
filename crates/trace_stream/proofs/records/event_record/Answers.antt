use Rattle.std.proofs.Common.{Err}
use Rattle.trace_stream.proofs.KindsLifted.{lift_event}
use Rattle.trace_stream.proofs.records.event_record.Goals as goal

pub returns-in-Err : goal.returns-in-Err
returns-in-Err c = lift_event c.args.version c.args.bytes.now (Err c.in-Err.refusal) c.requires c.in-Err.ensures.refused
