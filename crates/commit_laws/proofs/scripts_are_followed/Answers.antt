-- The operations of such a run are the script's.
use Rattle.commit_laws.proofs.Followed.{followed_commits, following_is_complete}
use Rattle.commit_laws.proofs.Fronts.{followed_front}
use Rattle.commit_laws.proofs.scripts_are_followed.Goals as goal

pub returns-clause-front : goal.returns-clause-front
returns-clause-front c = followed_front

pub returns-clause-commits : goal.returns-clause-commits
returns-clause-commits c = followed_commits

pub returns-clause-complete : goal.returns-clause-complete
returns-clause-complete c = following_is_complete
