-- What `==` decides is what the model's test decides.
use Rattle.cxl_message.proofs.Decided.{out_decided}
use Rattle.cxl_message.proofs.equality.same_out.Goals as goal

pub returns-clause-model : goal.returns-clause-model
returns-clause-model c = out_decided c.is_same_out.result c.args.first.now c.args.second.now c.is_same_out.ensures
