-- The fault of what was read is that of all bytes.
use Rattle.std.proofs.Common.{subst, sym}
use Rattle.trace_migration.specs.Walks.{IsOver, Walking}
use Rattle.trace_migration.proofs.Walked.{finish_fault}
use Rattle.trace_migration.proofs.walks.Walk.finish.Goals as goal

pub returns-clause-fault : goal.returns-clause-fault
returns-clause-fault c bytes items over =
    finish_fault bytes items (record { reading = c.self.inside.reader; rest = c.self.inside.rest.now }) c.finish.result (subst (λ (w : Walking). IsOver bytes items w) (sym c.self.view_is) over) c.finish.ensures.answer c.finish.ensures.fault
