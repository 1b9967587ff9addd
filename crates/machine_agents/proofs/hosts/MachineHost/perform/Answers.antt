-- The host performs the cause.
use Rattle.machine_agents.proofs.Answers.{host_performs, host_seen}
use Rattle.machine_agents.proofs.hosts.MachineHost.perform.Goals as goal

pub returns : goal.returns
returns c = host_seen _ _ _ c.self.view_is (host_performs c.self.inside.agent c.step_into-answer.new.self c.args.cause.now c.step_into-answer.new.room c.step_into-answer.result c.step_into-answer.ensures.answer c.step_into-answer.ensures.agent c.step_into-answer.ensures.cause c.step_into-answer.ensures.goes_on)
