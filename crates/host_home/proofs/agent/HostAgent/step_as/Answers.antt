-- What is wanted by what is kept is what the model answers.
use Rattle.host_home.proofs.Clauses.{wanted_answers, wanted_stands, wanted_stays}
use Rattle.host_rows.specs.Answers.{emission_in}
use Rattle.host_home.proofs.agent.HostAgent.step_as.Goals as goal

pub returns-clause-answer : goal.returns-clause-answer
returns-clause-answer c = wanted_answers c.args.self.now c.args.cause.now (emission_in c.args.wanted.now) c.step_cause_as.result c.step_cause_as.ensures.answer

pub returns-clause-goes_on : goal.returns-clause-goes_on
returns-clause-goes_on c =
    wanted_stands c.args.self.now c.step_cause_as.new.self c.args.cause.now (emission_in c.args.wanted.now) c.step_cause_as.result c.step_cause_as.ensures.answer c.step_cause_as.ensures.changed

pub returns-clause-setup : goal.returns-clause-setup
returns-clause-setup c = (wanted_stays c.args.self.now c.step_cause_as.new.self c.args.cause.now (emission_in c.args.wanted.now) c.step_cause_as.result c.step_cause_as.ensures.changed c.step_cause_as.ensures.refused).0

pub returns-clause-host : goal.returns-clause-host
returns-clause-host c = (wanted_stays c.args.self.now c.step_cause_as.new.self c.args.cause.now (emission_in c.args.wanted.now) c.step_cause_as.result c.step_cause_as.ensures.changed c.step_cause_as.ensures.refused).1
