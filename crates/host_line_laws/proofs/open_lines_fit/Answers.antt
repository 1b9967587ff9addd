-- By recursion over the host's own events.
use Rattle.host_line_laws.proofs.Laws.{asked_requests_fit, open_grants_fit, open_requests_fit}
use Rattle.host_line_laws.proofs.open_lines_fit.Goals as goal

pub returns-clause-requests : goal.returns-clause-requests
returns-clause-requests c = open_requests_fit

pub returns-clause-grants : goal.returns-clause-grants
returns-clause-grants c = open_grants_fit

pub returns-clause-asked : goal.returns-clause-asked
returns-clause-asked c = asked_requests_fit
