-- The line is quiet, the tags are free, and the credits are there.
use Rattle.std.proofs.Common.{ltb-true}
use Rattle.progress_laws.proofs.SnoopTakes.{snoops_known}
use Rattle.progress_laws.proofs.StuckOperations.{operation_begins}
use Rattle.progress_laws.proofs.operations_may_begin.Goals as goal

pub returns : goal.returns
returns c setup opening limits t run h host stuck s i op passes order =
    operation_begins setup opening limits t run (snoops_known setup opening limits t run) stuck h host (ltb-true h setup.hosts host) s i op passes order
