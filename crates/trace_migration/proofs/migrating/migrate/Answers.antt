-- Bytes with a fault have no head, so nothing is written of them.
use Rattle.std.proofs.Common.{Err, ap}
use Rattle.trace_migration.proofs.Migrations.{no_fault_with, refused}
use Rattle.trace_migration.proofs.Surveyed.{passed_on}
use Rattle.trace_migration.proofs.migrating.migrate.Goals as goal

pub returns-in_err-head-clause-no_other : goal.returns-in_err-head-clause-no_other
returns-in_err-head-clause-no_other g c fault has =
    refused c.args.bytes.now c.from_residual.result c.in_err-head.field-0.0 (passed_on c.from_residual.result c.in_err-head.field-0.0 c.from_residual.ensures.1)
    (λ own same. c.in_err-head.ensures.fault own (ap Err same)) (λ same. c.in_err-head.ensures.no_write (ap Err same)) fault has

pub returns-in_err-write_migrated-clause-no_other : goal.returns-in_err-write_migrated-clause-no_other
returns-in_err-write_migrated-clause-no_other g c fault has = absurd (no_fault_with c.args.bytes.now c.in_ok-head.head fault c.in_ok-head.ensures.trace has)

pub returns-in_err-write_migrated-clause-untouched : goal.returns-in_err-write_migrated-clause-untouched
returns-in_err-write_migrated-clause-untouched g c fault has = absurd (no_fault_with c.args.bytes.now c.in_ok-head.head fault c.in_ok-head.ensures.trace has)

pub returns-clause-no_other : goal.returns-clause-no_other
returns-clause-no_other g c fault has = absurd (no_fault_with c.args.bytes.now c.in_ok-head.head fault c.in_ok-head.ensures.trace has)

pub returns-clause-untouched : goal.returns-clause-untouched
returns-clause-untouched g c fault has = absurd (no_fault_with c.args.bytes.now c.in_ok-head.head fault c.in_ok-head.ensures.trace has)
