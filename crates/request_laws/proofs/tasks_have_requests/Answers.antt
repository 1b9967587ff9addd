-- By the places of each tag.
use Rattle.request_laws.proofs.Owners.{tasks_have_requests}
use Rattle.request_laws.proofs.tasks_have_requests.Goals as goal

pub returns : goal.returns
returns c = record { requests = tasks_have_requests }
