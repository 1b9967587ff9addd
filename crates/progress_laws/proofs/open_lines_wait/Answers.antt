-- By recursion over the host's own events.
use Rattle.request_laws.proofs.OwnRuns.{host_is_no_device}
use Rattle.progress_laws.proofs.LateStages.{late_is_completed}
use Rattle.progress_laws.proofs.OpenWaits.{open_waits}
use Rattle.progress_laws.proofs.open_lines_wait.Goals as goal

pub returns-clause-waiting : goal.returns-clause-waiting
returns-clause-waiting c mine a o is = open_waits a mine o is

pub returns-clause-late : goal.returns-clause-late
returns-clause-late c setup opening limits h host mine run a snooped late =
    late_is_completed setup opening h (host_is_no_device setup limits h host) mine run a snooped late
