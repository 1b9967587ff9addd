-- The answer by value is what the room holds, or the refusal, and the agent stands for one event more.
use Rattle.std.proofs.Common.{ap, sym, ◌∙◌}
use Rattle.std.specs.Prelude.{Ok}
use Rattle.host_rows.specs.Answers.{told}
use Rattle.host_home.proofs.Clauses.{value_stands}
use Rattle.host_home.proofs.agent.HostAgent.step.Goals as goal

pub returns-in-Ok-clause-answer : goal.returns-in-Ok-clause-answer
returns-in-Ok-clause-answer c = λ setup h mine s. ap Ok c.of.ensures ∙ ap (λ r. told r c.step_into.new.room) (sym c.in-Ok.is) ∙ c.step_into.ensures.answer setup h mine s

pub returns-in-Ok-clause-goes_on : goal.returns-in-Ok-clause-goes_on
returns-in-Ok-clause-goes_on c = λ setup h mine s.
    value_stands c.args.self.now c.step_into.new.self c.args.cause.now c.step_into.new.room c.step_into.result _ _ setup h mine s c.in-Ok.is c.of.ensures c.step_into.ensures.agent
    c.step_into.ensures.cause (c.step_into.ensures.goes_on setup h mine s)

pub returns-in-Err-clause-answer : goal.returns-in-Err-clause-answer
returns-in-Err-clause-answer c = λ setup h mine s. ap (λ r. told r c.step_into.new.room) (sym c.in-Err.is) ∙ c.step_into.ensures.answer setup h mine s
