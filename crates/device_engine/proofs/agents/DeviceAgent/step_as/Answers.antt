-- What was decided is what is wanted, and the device stands for its list with it; or it isn't, and nothing changes.
use Rattle.std.proofs.Common.{Bool, IsTrue, false, subst, true, ◌∷◌, ◌≡◌}
use Rattle.std.specs.Prelude.{◌↔◌}
use Rattle.coherence_model.specs.Next.{event_with}
use Rattle.coherence_model.specs.Refusals.{Answer, device_answer}
use Rattle.coherence_model.specs.Traces.{device}
use Rattle.device_state.specs.Agent.{AgentRecord}
use Rattle.device_state.specs.Decisions.{emission_by}
use Rattle.device_engine.specs.Contract.{StandsFor, WhereStands, emission_of}
use Rattle.device_engine.proofs.Glue.{emits, made_is_wanted, refusal_is_unwanted, some_after, some_steady, some_step, wanted_answers, wanted_stands}
use Rattle.device_engine.proofs.agents.DeviceAgent.step_as.Goals as goal

pub answer_into-requires : goal.answer_into-requires
answer_into-requires c = some_steady c.self.inside.tables c.self.invariant

pub change-requires : goal.change-requires
change-requires c =
    let d = c.self.inside.tables in
    let is = emits d.kept.memory c.in-Ok.decision c.answer_into.result _ c.in-Ok.is c.answer_into.ensures.answer in
    record { may = some_step d c.self.invariant c.args.cause.now (emission_by d.kept.memory c.in-Ok.decision) is }

pub invariant_of-self : goal.invariant_of-self
invariant_of-self c =
    let d = c.self.inside.tables in
    let is = emits d.kept.memory c.in-Ok.decision c.answer_into.result _ c.in-Ok.is c.answer_into.ensures.answer in
    some_after d c.change.new.tables c.self.invariant c.args.cause.now (emission_by d.kept.memory c.in-Ok.decision) is c.change.ensures.changed

pub returns-then-not-emits_same-clause-answer : goal.returns-then-not-emits_same-clause-answer
returns-then-not-emits_same-clause-answer c =
    let d = c.self.inside.tables in
    let m = emission_by d.kept.memory c.in-Ok.decision in
    let w = emission_of c.args.wanted.now in
    let is = emits d.kept.memory c.in-Ok.decision c.answer_into.result _ c.in-Ok.is c.answer_into.ensures.answer in
    let same = made_is_wanted c.args.cause.now m w c.answer_into.new.room c.emits_same.result c.in-Ok.ensures.event c.emits_same.ensures in
    subst (λ (x : AgentRecord). WhereStands x (λ setup opening mine. IsTrue false ↔ (device_answer setup opening c.args.cause.now mine ≡ Answer.Emits w))) c.self.view_is
    (subst (λ (b : Bool). WhereStands d (λ setup opening mine. IsTrue b ↔ (device_answer setup opening c.args.cause.now mine ≡ Answer.Emits w))) c.if-not-emits_same.true
    (wanted_answers d c.args.cause.now m w c.emits_same.result is same))

pub returns-else-not-emits_same-clause-answer : goal.returns-else-not-emits_same-clause-answer
returns-else-not-emits_same-clause-answer c =
    let d = c.self.inside.tables in
    let m = emission_by d.kept.memory c.in-Ok.decision in
    let w = emission_of c.args.wanted.now in
    let is = emits d.kept.memory c.in-Ok.decision c.answer_into.result _ c.in-Ok.is c.answer_into.ensures.answer in
    let same = made_is_wanted c.args.cause.now m w c.answer_into.new.room c.emits_same.result c.in-Ok.ensures.event c.emits_same.ensures in
    subst (λ (x : AgentRecord). WhereStands x (λ setup opening mine. IsTrue true ↔ (device_answer setup opening c.args.cause.now mine ≡ Answer.Emits w))) c.self.view_is
    (subst (λ (b : Bool). WhereStands d (λ setup opening mine. IsTrue b ↔ (device_answer setup opening c.args.cause.now mine ≡ Answer.Emits w))) c.if-not-emits_same.false
    (wanted_answers d c.args.cause.now m w c.emits_same.result is same))

pub returns-else-not-emits_same-clause-goes_on : goal.returns-else-not-emits_same-clause-goes_on
returns-else-not-emits_same-clause-goes_on c =
    let d = c.self.inside.tables in
    let m = emission_by d.kept.memory c.in-Ok.decision in
    let w = emission_of c.args.wanted.now in
    let is = emits d.kept.memory c.in-Ok.decision c.answer_into.result _ c.in-Ok.is c.answer_into.ensures.answer in
    let same = made_is_wanted c.args.cause.now m w c.answer_into.new.room c.emits_same.result c.in-Ok.ensures.event c.emits_same.ensures in
    subst (λ (x : AgentRecord). WhereStands x (λ setup opening mine. IsTrue true → StandsFor c.change.new.tables setup opening (event_with device c.args.cause.now w ∷ mine))) c.self.view_is
    (wanted_stands d c.change.new.tables c.args.cause.now m w is c.change.ensures.changed (same.0 c.if-not-emits_same.false))

pub returns-in-Err-clause-answer : goal.returns-in-Err-clause-answer
returns-in-Err-clause-answer c =
    let d = c.self.inside.tables in
    let w = emission_of c.args.wanted.now in
    subst (λ (x : AgentRecord). WhereStands x (λ setup opening mine. IsTrue false ↔ (device_answer setup opening c.args.cause.now mine ≡ Answer.Emits w))) c.self.view_is
    (refusal_is_unwanted d c.args.cause.now c.in-Err.field-0 w c.answer_into.result c.in-Err.is c.answer_into.ensures.answer)
