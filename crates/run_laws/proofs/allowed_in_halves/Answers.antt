-- By the definition of an allowed event.
use Rattle.coherence_model.proofs.Allowed.{allowed_breaks_no_rule}
use Rattle.run_laws.proofs.Runs.{allowed_in_halves}
use Rattle.run_laws.proofs.allowed_in_halves.Goals as goal

pub returns-clause-halves : goal.returns-clause-halves
returns-clause-halves c = allowed_in_halves

pub returns-clause-no_rule : goal.returns-clause-no_rule
returns-clause-no_rule c = allowed_breaks_no_rule
