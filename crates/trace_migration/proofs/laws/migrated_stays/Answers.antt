-- What was migrated is a trace with the same parts.
use Rattle.trace_migration.proofs.Migrations.{stays}
use Rattle.trace_migration.proofs.laws.migrated_stays.Goals as goal

pub returns : goal.returns
returns c = stays
