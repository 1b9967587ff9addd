-- By the definition of a run, and by recursion over what is cut off.
use Rattle.std.proofs.Common.{refl}
use Rattle.run_laws.proofs.Runs.{front_is_run}
use Rattle.run_laws.proofs.runs_go_on.Goals as goal

pub returns-clause-empty : goal.returns-clause-empty
returns-clause-empty c = λ setup opening. refl

pub returns-clause-next : goal.returns-clause-next
returns-clause-next c = λ setup opening past e. refl

pub returns-clause-front : goal.returns-clause-front
returns-clause-front c = front_is_run
