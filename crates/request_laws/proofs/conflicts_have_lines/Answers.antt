-- By recursion over the host's own events.
use Rattle.request_laws.proofs.HostFacts.{asked_lines, conflict_tags_are_own, conflicts_have_lines}
use Rattle.request_laws.proofs.conflicts_have_lines.Goals as goal

pub returns-clause-asked : goal.returns-clause-asked
returns-clause-asked c = asked_lines

pub returns-clause-lines : goal.returns-clause-lines
returns-clause-lines c = conflicts_have_lines

pub returns-clause-own : goal.returns-clause-own
returns-clause-own c = conflict_tags_are_own
