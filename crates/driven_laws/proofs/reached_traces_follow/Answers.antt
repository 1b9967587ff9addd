-- Each operation that is picked is the script's.
use Rattle.driven_laws.proofs.Reached.{reached_is_followed}
use Rattle.driven_laws.proofs.reached_traces_follow.Goals as goal

pub returns : goal.returns
returns c = reached_is_followed
