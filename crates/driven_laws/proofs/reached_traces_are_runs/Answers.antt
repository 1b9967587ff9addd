-- Each event is picked from choices that are all allowed.
use Rattle.driven_laws.proofs.Reached.{driving_reaches, reached_is_run}
use Rattle.driven_laws.proofs.reached_traces_are_runs.Goals as goal

pub returns-clause-reached : goal.returns-clause-reached
returns-clause-reached c script n picks t reached = driving_reaches script n picks t reached

pub returns-clause-runs : goal.returns-clause-runs
returns-clause-runs c script can t reached = reached_is_run script can t reached
