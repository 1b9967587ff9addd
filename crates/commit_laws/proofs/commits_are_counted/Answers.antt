-- Each commit is of one stream.
use Rattle.commit_laws.proofs.Counted.{commits_are_summed, complete_is_counted}
use Rattle.commit_laws.proofs.commits_are_counted.Goals as goal

pub returns-clause-summed : goal.returns-clause-summed
returns-clause-summed c = commits_are_summed

pub returns-clause-counted : goal.returns-clause-counted
returns-clause-counted c = complete_is_counted
