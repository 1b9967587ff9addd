-- What is found tells whether the history is legal.
use Rattle.flat_model.proofs.Judged.{found_is_legal}
use Rattle.flat_model.proofs.histories.none_is_legal.Goals as goal

pub returns : goal.returns
returns c = found_is_legal
