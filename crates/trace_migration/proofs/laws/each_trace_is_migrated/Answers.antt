-- The parts of a trace are those of its bytes alone.
use Rattle.trace_migration.proofs.Migrations.{each_trace, one_migration}
use Rattle.trace_migration.proofs.laws.each_trace_is_migrated.Goals as goal

pub returns-clause-one : goal.returns-clause-one
returns-clause-one c = each_trace

pub returns-clause-no_other : goal.returns-clause-no_other
returns-clause-no_other c = one_migration
