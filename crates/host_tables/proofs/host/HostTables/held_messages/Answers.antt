-- What is owed and held is at most the credits.
use Rattle.std.proofs.Common.{arith}
use Rattle.host_tables.proofs.host.HostTables.held_messages.Goals as goal

pub overflow_add-result : goal.overflow_add-result
overflow_add-result c = omega (arith, c.self.invariant.few, c.self.invariant.credits, c.len.ensures)
