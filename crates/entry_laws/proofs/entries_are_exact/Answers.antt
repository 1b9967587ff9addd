-- By recursion over the own events of the device.
use Rattle.entry_laws.proofs.Laws.{entries_are_exact, entries_are_once}
use Rattle.entry_laws.proofs.entries_are_exact.Goals as goal

pub returns-clause-lines : goal.returns-clause-lines
returns-clause-lines c = entries_are_exact

pub returns-clause-once : goal.returns-clause-once
returns-clause-once c = entries_are_once
