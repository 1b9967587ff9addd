use Rattle.std.proofs.Common.{Err}
use Rattle.trace_stream.proofs.KindsLifted.{lift_opening}
use Rattle.trace_stream.proofs.records.opening_record.Goals as goal

pub returns-in-Err : goal.returns-in-Err
returns-in-Err c = λ version. lift_opening version c.args.bytes.now (Err c.in-Err.refusal) c.requires c.in-Err.ensures.refused
