-- By the laws of every run, at each front.
use Rattle.coherent_runs.proofs.Runs.{runs_coherent}
use Rattle.coherent_runs.proofs.runs_are_coherent.Goals as goal

pub returns : goal.returns
returns c = runs_coherent
