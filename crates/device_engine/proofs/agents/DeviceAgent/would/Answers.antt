-- What was made in the room is answered by value.
use Rattle.std.proofs.Common.{Err}
use Rattle.coherence_model.specs.Refusals.{Answer}
use Rattle.device_rows.specs.Answering.{answered}
use Rattle.device_engine.specs.Contract.{made}
use Rattle.device_engine.proofs.Glue.{answered_as, refusal_as, where_same}
use Rattle.device_engine.proofs.agents.DeviceAgent.would.Goals as goal

pub returns-in-Ok : goal.returns-in-Ok
returns-in-Ok c =
    let e = c.would_into.new.room in
    record {
      answer = where_same c.args.self.now c.args.cause.now (Answer.Emits c.of.result) (made c.would_into.result e) (answered_as c.of.result e c.would_into.result c.in-Ok.is c.of.ensures) c.would_into.ensures.answer;
    }

pub returns-in-Err : goal.returns-in-Err
returns-in-Err c =
    let e = c.would_into.new.room in
    record {
      answer = where_same c.args.self.now c.args.cause.now (answered (Err c.in-Err.refusal)) (made c.would_into.result e) (refusal_as c.in-Err.refusal e c.would_into.result c.in-Err.is) c.would_into.ensures.answer;
    }
