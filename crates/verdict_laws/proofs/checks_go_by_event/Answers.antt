-- By the definition of the verdict.
use Rattle.std.proofs.Common.{refl}
use Rattle.verdict_laws.proofs.Checks.{check_breaks, check_goes_on}
use Rattle.verdict_laws.proofs.checks_go_by_event.Goals as goal

pub returns-clause-begins : goal.returns-clause-begins
returns-clause-begins c = λ setup opening events. refl

pub returns-clause-next : goal.returns-clause-next
returns-clause-next c = check_goes_on

pub returns-clause-breaks : goal.returns-clause-breaks
returns-clause-breaks c = check_breaks

pub returns-clause-ends : goal.returns-clause-ends
returns-clause-ends c = λ setup opening past. refl
