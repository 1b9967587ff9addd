-- The device answers with the event in the room, or it refuses.
use Rattle.machine_agents.proofs.Answers.{device_makes_it, device_makes_none, device_seen}
use Rattle.machine_agents.proofs.devices.MachineDevice.makes.Goals as goal

pub returns-in-Ok : goal.returns-in-Ok
returns-in-Ok c = record { answer = device_seen _ _ _ c.self.view_is (device_makes_it c.self.inside.agent c.args.cause.now c.would_into.new.room c.would_into.result _ c.in-Ok.is c.would_into.ensures.answer c.would_into.ensures.event) }

pub returns-in-Err : goal.returns-in-Err
returns-in-Err c = record { answer = device_seen _ _ _ c.self.view_is (device_makes_none c.self.inside.agent c.args.cause.now c.would_into.new.room c.would_into.result _ c.in-Err.is c.would_into.ensures.answer) }
