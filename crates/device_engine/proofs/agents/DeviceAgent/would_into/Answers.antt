-- The event that was made is the model's answer.
use Rattle.std.proofs.Common.{◌≡◌, ◌∙◌, Ok, Err, subst}
use Rattle.coherence_model.specs.Refusals.{device_answer}
use Rattle.device_state.specs.Agent.{AgentRecord}
use Rattle.device_state.specs.Decisions.{emission_by}
use Rattle.device_engine.specs.Contract.{WhereStands, made}
use Rattle.device_engine.proofs.Glue.{answers_are, by_device, made_as, refused_as, some_steady}
use Rattle.device_engine.proofs.agents.DeviceAgent.would_into.Goals as goal

pub answer_into-requires : goal.answer_into-requires
answer_into-requires c = some_steady c.self.inside.tables c.self.invariant

pub returns-in-Ok-clause-answer : goal.returns-in-Ok-clause-answer
returns-in-Ok-clause-answer c =
    let d = c.self.inside.tables in
    let e = c.answer_into.new.room in
    let same = made_as d.kept.memory c.in-Ok._decision c.args.cause.now e c.answer_into.result c.in-Ok.is c.in-Ok.ensures.event in
    subst (λ (d : AgentRecord). WhereStands d (λ setup opening mine. made (Ok tt) e ≡ device_answer setup opening c.args.cause.now mine)) c.self.view_is
    (answers_are d c.args.cause.now (made (Ok tt) e) (same ∙ c.answer_into.ensures.answer))

pub returns-in-Ok-clause-event : goal.returns-in-Ok-clause-event
returns-in-Ok-clause-event c = by_device c.args.cause.now (emission_by c.self.inside.tables.kept.memory c.in-Ok._decision) c.answer_into.new.room c.in-Ok.ensures.event

pub returns-in-Err-clause-answer : goal.returns-in-Err-clause-answer
returns-in-Err-clause-answer c =
    let d = c.self.inside.tables in
    let e = c.answer_into.new.room in
    let same = refused_as d.kept.memory c.in-Err.refusal e c.answer_into.result c.in-Err.is in
    subst (λ (d : AgentRecord). WhereStands d (λ setup opening mine. made (Err c.in-Err.refusal) e ≡ device_answer setup opening c.args.cause.now mine)) c.self.view_is
    (answers_are d c.args.cause.now (made (Err c.in-Err.refusal) e) (same ∙ c.answer_into.ensures.answer))
