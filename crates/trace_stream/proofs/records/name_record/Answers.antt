use Rattle.std.proofs.Common.{Err}
use Rattle.trace_stream.proofs.KindsLifted.{lift_name}
use Rattle.trace_stream.proofs.records.name_record.Goals as goal

pub returns-in-Err : goal.returns-in-Err
returns-in-Err c = lift_name c.args.bytes.now (Err c.in-Err.refusal) c.requires c.in-Err.ensures.refused
