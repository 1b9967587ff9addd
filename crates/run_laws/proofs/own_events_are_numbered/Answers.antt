-- By recursion over the trace.
use Rattle.run_laws.proofs.Numbers.{numbered_are_own, numbers_are_places}
use Rattle.run_laws.proofs.own_events_are_numbered.Goals as goal

pub returns-clause-events : goal.returns-clause-events
returns-clause-events c = numbered_are_own

pub returns-clause-places : goal.returns-clause-places
returns-clause-places c = numbers_are_places
