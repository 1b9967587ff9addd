-- By recursion over the host's own events.
use Rattle.request_laws.proofs.OpenLines.{open_tags_are_distinct, open_tags_lead_back}
use Rattle.request_laws.proofs.open_tags_are_distinct.Goals as goal

pub returns-clause-lead_back : goal.returns-clause-lead_back
returns-clause-lead_back c = open_tags_lead_back

pub returns-clause-distinct : goal.returns-clause-distinct
returns-clause-distinct c = open_tags_are_distinct
