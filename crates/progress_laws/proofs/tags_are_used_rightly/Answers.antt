-- By recursion over the run, and over the host's own events.
use Rattle.request_laws.proofs.OwnRuns.{host_is_no_device}
use Rattle.progress_laws.proofs.ConflictKinds.{conflicts_are_declared}
use Rattle.progress_laws.proofs.SharedGrants.{shared_grants_meet}
use Rattle.progress_laws.proofs.tags_are_used_rightly.Goals as goal

pub returns-clause-grants : goal.returns-clause-grants
returns-clause-grants c setup opening limits t run h host a o is waits = shared_grants_meet setup opening limits h host t run a o is waits

pub returns-clause-conflicts : goal.returns-clause-conflicts
returns-clause-conflicts c setup opening limits h host mine run a o is conflict =
    conflicts_are_declared setup opening h (host_is_no_device setup limits h host) mine run a o is conflict
