-- What is opened stands for the empty list.
use Rattle.std.proofs.Common.{[]}
use Rattle.device_engine.proofs.Glue.{opened_for_some, opened_stands_for}
use Rattle.device_engine.proofs.agents.DeviceAgent.open.Goals as goal

pub invariant_of-result : goal.invariant_of-result
invariant_of-result c = opened_for_some c.in-Ok.tables c.args.setup.now c.args.opening.now c.hosts-within.ensures.within c.in-Ok.ensures.opened

pub returns-in-Ok-clause-stands : goal.returns-in-Ok-clause-stands
returns-in-Ok-clause-stands c = opened_stands_for c.in-Ok.tables c.args.setup.now c.args.opening.now c.hosts-within.ensures.within c.in-Ok.ensures.opened
