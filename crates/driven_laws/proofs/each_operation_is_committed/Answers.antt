-- The commits of a stream name its operations that are done, and at the end all are.
use Rattle.driven_laws.proofs.Ending.{driven_is_committed, each_is_committed}
use Rattle.driven_laws.proofs.each_operation_is_committed.Goals as goal

pub returns-clause-done : goal.returns-clause-done
returns-clause-done c = each_is_committed

pub returns-clause-driven : goal.returns-clause-driven
returns-clause-driven c = driven_is_committed
