-- By the exact list of entries, and by what the rooms of requests say.
use Rattle.entry_laws.proofs.Laws.{some_request_goes_on, tasks_go_on, writes_go_on}
use Rattle.entry_laws.proofs.device_goes_on.Goals as goal

pub returns-clause-writes : goal.returns-clause-writes
returns-clause-writes c = writes_go_on

pub returns-clause-tasks : goal.returns-clause-tasks
returns-clause-tasks c = tasks_go_on

pub returns-clause-requests : goal.returns-clause-requests
returns-clause-requests c = some_request_goes_on
