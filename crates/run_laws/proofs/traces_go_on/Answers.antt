-- By recursion over the later events.
use Rattle.run_laws.proofs.OwnEvents.{events_of_append, history_of_append}
use Rattle.run_laws.proofs.traces_go_on.Goals as goal

pub returns-clause-events : goal.returns-clause-events
returns-clause-events c = events_of_append

pub returns-clause-history : goal.returns-clause-history
returns-clause-history c = history_of_append
