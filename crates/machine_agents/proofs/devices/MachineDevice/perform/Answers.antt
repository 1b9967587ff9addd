-- The device performs the cause.
use Rattle.machine_agents.proofs.Answers.{device_performs, device_seen}
use Rattle.machine_agents.proofs.devices.MachineDevice.perform.Goals as goal

pub returns : goal.returns
returns c = device_seen _ _ _ c.self.view_is (device_performs c.self.inside.agent c.step_into-answer.new.self c.args.cause.now c.step_into-answer.new.room c.step_into-answer.result c.step_into-answer.ensures.answer c.step_into-answer.ensures.event c.step_into-answer.ensures.goes_on)
