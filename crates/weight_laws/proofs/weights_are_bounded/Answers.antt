-- By the parts of the weight, event by event.
use Rattle.weight_laws.proofs.Weights.{weights_are_bounded}
use Rattle.weight_laws.proofs.weights_are_bounded.Goals as goal

pub returns : goal.returns
returns c = weights_are_bounded
