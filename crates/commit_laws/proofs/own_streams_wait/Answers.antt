-- What is kept of a host's streams along its own events.
use Rattle.commit_laws.proofs.OwnWaits.{own_requests_are_alone, own_requests_are_awaited, own_waits_for_request}
use Rattle.commit_laws.proofs.own_streams_wait.Goals as goal

pub returns-clause-waits : goal.returns-clause-waits
returns-clause-waits c = own_waits_for_request

pub returns-clause-awaited : goal.returns-clause-awaited
returns-clause-awaited c = own_requests_are_awaited

pub returns-clause-alone : goal.returns-clause-alone
returns-clause-alone c = own_requests_are_alone
