-- By recursion over the device's own events.
use Rattle.snoop_laws.proofs.SentSnoops.{sent_snoops_have_tasks}
use Rattle.snoop_laws.proofs.sent_snoops_have_tasks.Goals as goal

pub returns : goal.returns
returns c = sent_snoops_have_tasks
