-- What `==` decides is what the model's test decides.
use Rattle.cxl_message.proofs.Decided.{message_decided}
use Rattle.cxl_message.proofs.equality.same_message.Goals as goal

pub returns-clause-model : goal.returns-clause-model
returns-clause-model c = message_decided c.is_same_message.result c.args.first.now c.args.second.now c.is_same_message.ensures
