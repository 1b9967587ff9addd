-- What decides the equality of two messages is the model's test.
use Rattle.cxl_message.proofs.Decided.{message_decided}
use Rattle.link_queues.proofs.matching.is_same.Goals as goal

pub returns : goal.returns
returns c = message_decided c.same_message.result _ _ c.same_message.ensures
