-- By what another agent's event leaves in flight.
use Rattle.coherence_lemmas.proofs.OwnEvents.{events_of-foreign_all}
use Rattle.run_laws.proofs.Runs.{others_keep_allowed, others_leave_own_half}
use Rattle.run_laws.proofs.others_keep_allowed.Goals as goal

pub returns-clause-events : goal.returns-clause-events
returns-clause-events c = events_of-foreign_all

pub returns-clause-own : goal.returns-clause-own
returns-clause-own c = others_leave_own_half

pub returns-clause-allowed : goal.returns-clause-allowed
returns-clause-allowed c = others_keep_allowed
