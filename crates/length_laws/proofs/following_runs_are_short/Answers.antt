-- Its operations are at most the script's.
use Rattle.length_laws.proofs.Short.{following_is_short}
use Rattle.length_laws.proofs.following_runs_are_short.Goals as goal

pub returns : goal.returns
returns c = following_is_short
