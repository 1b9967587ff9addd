-- By the profile of each event.
use Rattle.run_laws.proofs.OwnEvents.{run_has_agents}
use Rattle.run_laws.proofs.events_have_agents.Goals as goal

pub returns : goal.returns
returns c = run_has_agents
