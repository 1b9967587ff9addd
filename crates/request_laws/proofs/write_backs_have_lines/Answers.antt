-- By recursion over the host's own events.
use Rattle.request_laws.proofs.HostFacts.{write_back_is_alone, write_backs_have_lines, writing_lines}
use Rattle.request_laws.proofs.write_backs_have_lines.Goals as goal

pub returns-clause-snooped : goal.returns-clause-snooped
returns-clause-snooped c = writing_lines

pub returns-clause-lines : goal.returns-clause-lines
returns-clause-lines c = write_backs_have_lines

pub returns-clause-alone : goal.returns-clause-alone
returns-clause-alone c = write_back_is_alone
