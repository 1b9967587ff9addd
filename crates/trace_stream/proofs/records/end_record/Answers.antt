use Rattle.std.proofs.Common.{Err}
use Rattle.trace_stream.proofs.KindsLifted.{lift_end}
use Rattle.trace_stream.proofs.records.end_record.Goals as goal

pub returns-in-Err : goal.returns-in-Err
returns-in-Err c = λ version room. lift_end version c.args.bytes.now (Err c.in-Err.refusal) c.requires c.in-Err.ensures.refused
