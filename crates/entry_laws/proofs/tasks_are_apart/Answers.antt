-- By recursion over the own events of the device.
use Rattle.entry_laws.proofs.Laws.{busy_lines_are_covered, tasks_are_apart, tasks_are_named, tasks_are_placed}
use Rattle.entry_laws.proofs.tasks_are_apart.Goals as goal

pub returns-clause-placed : goal.returns-clause-placed
returns-clause-placed c = tasks_are_placed

pub returns-clause-named : goal.returns-clause-named
returns-clause-named c = tasks_are_named

pub returns-clause-apart : goal.returns-clause-apart
returns-clause-apart c = tasks_are_apart

pub returns-clause-busy : goal.returns-clause-busy
returns-clause-busy c = busy_lines_are_covered
