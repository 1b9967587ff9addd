-- What fits version 1 fits version 2.
use Rattle.trace_migration.proofs.Migrations.{is_a_trace}
use Rattle.trace_migration.proofs.laws.migrated_is_a_trace.Goals as goal

pub returns : goal.returns
returns c = is_a_trace
