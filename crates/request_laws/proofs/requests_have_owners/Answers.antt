-- By the places of each tag.
use Rattle.request_laws.proofs.Owners.{requests_name_their_line, unused_tags}
use Rattle.request_laws.proofs.requests_have_owners.Goals as goal

pub returns-clause-named : goal.returns-clause-named
returns-clause-named c = requests_name_their_line

pub returns-clause-unused : goal.returns-clause-unused
returns-clause-unused c = unused_tags
