-- A trace has no fault.
use Rattle.trace_migration.proofs.Migrations.{faults_are_not}
use Rattle.trace_migration.proofs.laws.faults_are_not_migrated.Goals as goal

pub returns : goal.returns
returns c = faults_are_not
