-- The weight and the number of events grow together by operations alone.
use Rattle.weight_laws.proofs.Lengths.{runs_are_short}
use Rattle.weight_laws.proofs.runs_are_short.Goals as goal

pub returns : goal.returns
returns c = runs_are_short
