-- The agent after an answer that is Ok stands for one event more.
use Rattle.host_home.proofs.Clauses.{step_stands}
use Rattle.host_home.proofs.agent.HostAgent.step_into.Goals as goal

pub returns-clause-goes_on : goal.returns-clause-goes_on
returns-clause-goes_on c = λ setup h mine s.
    step_stands c.args.self.now c.step_cause.new.self c.args.cause.now c.step_cause.new.room c.step_cause.result setup h mine s c.step_cause.ensures.answer c.step_cause.ensures.event c.step_cause.ensures.changed
