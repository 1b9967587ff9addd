-- By the operation of each event, and by the count of each stream.
use Rattle.commit_laws.proofs.Tested.{complete_is_committed, following_is_tested}
use Rattle.commit_laws.proofs.following_is_tested.Goals as goal

pub returns-clause-tested : goal.returns-clause-tested
returns-clause-tested c = following_is_tested

pub returns-clause-complete : goal.returns-clause-complete
returns-clause-complete c = complete_is_committed
