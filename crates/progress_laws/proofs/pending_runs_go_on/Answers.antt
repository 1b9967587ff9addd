-- Where no step is next nothing is pending.
use Rattle.progress_laws.proofs.SnoopTakes.{snoops_known}
use Rattle.progress_laws.proofs.StuckOpen.{nothing_pending, pending_goes_on}
use Rattle.progress_laws.proofs.pending_runs_go_on.Goals as goal

pub returns-clause-next : goal.returns-clause-next
returns-clause-next c setup opening limits t run pending = pending_goes_on setup opening limits t run (snoops_known setup opening limits t run) pending

pub returns-clause-rest : goal.returns-clause-rest
returns-clause-rest c setup opening limits t run stuck = nothing_pending setup opening limits t run (snoops_known setup opening limits t run) stuck
