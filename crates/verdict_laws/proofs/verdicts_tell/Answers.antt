-- By recursion over the events, each of which is allowed or breaks a rule.
use Rattle.verdict_laws.proofs.Verdicts.{broken_is_told, run_is_told}
use Rattle.verdict_laws.proofs.verdicts_tell.Goals as goal

pub returns-clause-run : goal.returns-clause-run
returns-clause-run c = run_is_told

pub returns-clause-broken : goal.returns-clause-broken
returns-clause-broken c = broken_is_told
