-- By recursion over the own events of the device.
use Rattle.entry_laws.proofs.Laws.{entries_are_kept_after, entries_suffice_after}
use Rattle.entry_laws.proofs.filter_suffices.Goals as goal

pub returns-clause-entries : goal.returns-clause-entries
returns-clause-entries c = entries_suffice_after

pub returns-clause-kept : goal.returns-clause-kept
returns-clause-kept c = entries_are_kept_after
