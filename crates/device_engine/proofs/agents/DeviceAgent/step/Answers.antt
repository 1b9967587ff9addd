-- What was made in the room is answered by value.
use Rattle.std.proofs.Common.{Err}
use Rattle.coherence_model.specs.Refusals.{Answer}
use Rattle.device_rows.specs.Answering.{answered}
use Rattle.device_engine.specs.Contract.{made}
use Rattle.device_engine.proofs.Glue.{answered_as, refusal_as, stands_by, where_same}
use Rattle.device_engine.proofs.agents.DeviceAgent.step.Goals as goal

pub returns-in-Ok-clause-answer : goal.returns-in-Ok-clause-answer
returns-in-Ok-clause-answer c =
    let e = c.step_into.new.room in
    where_same c.args.self.now c.args.cause.now (Answer.Emits c.of.result) (made c.step_into.result e) (answered_as c.of.result e c.step_into.result c.in-Ok.is c.of.ensures) c.step_into.ensures.answer

pub returns-in-Ok-clause-goes_on : goal.returns-in-Ok-clause-goes_on
returns-in-Ok-clause-goes_on c =
    stands_by c.args.self.now c.step_into.new.self c.args.cause.now c.of.result c.step_into.new.room c.in-Ok.ensures.event c.of.ensures c.in-Ok.ensures.goes_on

pub returns-in-Err-clause-answer : goal.returns-in-Err-clause-answer
returns-in-Err-clause-answer c =
    let e = c.step_into.new.room in
    where_same c.args.self.now c.args.cause.now (answered (Err c.in-Err.refusal)) (made c.step_into.result e) (refusal_as c.in-Err.refusal e c.step_into.result c.in-Err.is) c.step_into.ensures.answer
