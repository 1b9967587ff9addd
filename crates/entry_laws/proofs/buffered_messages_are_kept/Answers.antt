-- By recursion over the own events of the device.
use Rattle.entry_laws.proofs.Laws.{buffered_messages_fit, request_tags_are_distinct, write_tags_are_distinct}
use Rattle.entry_laws.proofs.buffered_messages_are_kept.Goals as goal

pub returns-clause-request_tags : goal.returns-clause-request_tags
returns-clause-request_tags c = request_tags_are_distinct

pub returns-clause-write_tags : goal.returns-clause-write_tags
returns-clause-write_tags c = write_tags_are_distinct

pub returns-clause-fit : goal.returns-clause-fit
returns-clause-fit c = buffered_messages_fit
