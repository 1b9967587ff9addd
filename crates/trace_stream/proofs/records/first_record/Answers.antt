use Rattle.std.proofs.Common.{Ok, Err}
use Rattle.trace_stream.proofs.KindsLifted.{lift_header}
use Rattle.trace_stream.proofs.records.first_record.Goals as goal

pub returns-in-Err : goal.returns-in-Err
returns-in-Err c = λ version. lift_header version c.args.bytes.now (Err c.in-Err.refusal) c.in-Err.ensures.refused
