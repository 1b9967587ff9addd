use Rattle.script_text.proofs.Failing.{failures_are_alone, failures_are_no_scripts}
use Rattle.script_text.proofs.laws.failures_are_alone.Goals as goal

pub returns-clause-alone : goal.returns-clause-alone
returns-clause-alone c = failures_are_alone

pub returns-clause-no_script : goal.returns-clause-no_script
returns-clause-no_script c = failures_are_no_scripts
