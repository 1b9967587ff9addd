-- What `==` decides is what the model's test decides.
use Rattle.cxl_message.proofs.Decided.{sends_decided}
use Rattle.cxl_message.proofs.equality.same_sends.Goals as goal

pub returns-clause-model : goal.returns-clause-model
returns-clause-model c = sends_decided c.is_same_sends.result c.args.first.now c.args.second.now c.is_same_sends.ensures
