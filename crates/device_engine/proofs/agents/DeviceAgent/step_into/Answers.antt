-- The event that was made is the model's answer, and the device stands for its list with it.
use Rattle.std.proofs.Common.{◌≡◌, ◌∙◌, ◌∷◌, Ok, Err, ap, subst}
use Rattle.coherence_model.specs.Refusals.{device_answer}
use Rattle.device_state.specs.Agent.{AgentRecord}
use Rattle.device_state.specs.Decisions.{emission_by}
use Rattle.device_engine.specs.Contract.{StandsFor, WhereStands, made}
use Rattle.device_engine.proofs.Glue.{answers_are, by_device, emits, made_as, refused_as, some_after, some_steady, some_step, stands_with}
use Rattle.device_engine.proofs.agents.DeviceAgent.step_into.Goals as goal

pub answer_into-requires : goal.answer_into-requires
answer_into-requires c = some_steady c.self.inside.tables c.self.invariant

pub change-requires : goal.change-requires
change-requires c =
    let d = c.self.inside.tables in
    let is = emits d.kept.memory c.in-Ok.decision c.answer_into.result _ c.in-Ok.is c.answer_into.ensures.answer in
    record { may = some_step d c.self.invariant c.args.cause.now (emission_by d.kept.memory c.in-Ok.decision) is }

pub invariant_of-self : goal.invariant_of-self
invariant_of-self c =
    let d = c.self.inside.tables in
    let is = emits d.kept.memory c.in-Ok.decision c.answer_into.result _ c.in-Ok.is c.answer_into.ensures.answer in
    some_after d c.change.new.tables c.self.invariant c.args.cause.now (emission_by d.kept.memory c.in-Ok.decision) is c.change.ensures.changed

pub returns-in-Ok-clause-answer : goal.returns-in-Ok-clause-answer
returns-in-Ok-clause-answer c =
    let d = c.self.inside.tables in
    let e = c.answer_into.new.room in
    let same = made_as d.kept.memory c.in-Ok.decision c.args.cause.now e c.answer_into.result c.in-Ok.is c.in-Ok.ensures.event in
    subst (λ (d : AgentRecord). WhereStands d (λ setup opening mine. made (Ok tt) e ≡ device_answer setup opening c.args.cause.now mine)) c.self.view_is
    (answers_are d c.args.cause.now (made (Ok tt) e) (same ∙ c.answer_into.ensures.answer))

pub returns-in-Ok-clause-event : goal.returns-in-Ok-clause-event
returns-in-Ok-clause-event c = by_device c.args.cause.now (emission_by c.self.inside.tables.kept.memory c.in-Ok.decision) c.answer_into.new.room c.in-Ok.ensures.event

pub returns-in-Ok-clause-goes_on : goal.returns-in-Ok-clause-goes_on
returns-in-Ok-clause-goes_on c =
    let d = c.self.inside.tables in
    let e = c.answer_into.new.room in
    let is = emits d.kept.memory c.in-Ok.decision c.answer_into.result _ c.in-Ok.is c.answer_into.ensures.answer in
    subst (λ (d : AgentRecord). WhereStands d (λ setup opening mine. StandsFor c.change.new.tables setup opening (e ∷ mine))) c.self.view_is
    (stands_with d c.change.new.tables c.in-Ok.decision c.args.cause.now e is c.change.ensures.changed c.in-Ok.ensures.event)

pub returns-in-Err-clause-answer : goal.returns-in-Err-clause-answer
returns-in-Err-clause-answer c =
    let d = c.self.inside.tables in
    let e = c.answer_into.new.room in
    let same = refused_as d.kept.memory c.in-Err.refusal e c.answer_into.result c.in-Err.is in
    subst (λ (d : AgentRecord). WhereStands d (λ setup opening mine. made (Err c.in-Err.refusal) e ≡ device_answer setup opening c.args.cause.now mine)) c.self.view_is
    (answers_are d c.args.cause.now (made (Err c.in-Err.refusal) e) (same ∙ c.answer_into.ensures.answer))

pub returns-in-Ok-clause-setup : goal.returns-in-Ok-clause-setup
returns-in-Ok-clause-setup c = ap (λ (d : AgentRecord). d.setup) (c.change.ensures.changed) ∙ ap (λ (d : AgentRecord). d.setup) c.self.view_is
