-- By recursion over the own events of the device.
use Rattle.entry_laws.proofs.Laws.{snoops_have_tasks}
use Rattle.entry_laws.proofs.snoops_have_tasks.Goals as goal

pub returns : goal.returns
returns c = snoops_have_tasks
