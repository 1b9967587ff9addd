-- By recursion over the own events of the device.
use Rattle.entry_laws.proofs.Laws.{evictions_have_requests, one_task_evicts, rooms_have_requests}
use Rattle.entry_laws.proofs.evictions_have_requests.Goals as goal

pub returns-clause-buffered : goal.returns-clause-buffered
returns-clause-buffered c = evictions_have_requests

pub returns-clause-one : goal.returns-clause-one
returns-clause-one c = one_task_evicts

pub returns-clause-rooms : goal.returns-clause-rooms
returns-clause-rooms c = rooms_have_requests
