-- Any run follows the script of the operations that it began.
use Rattle.commit_laws.proofs.Begun.{begun_are_counted}
use Rattle.commit_laws.proofs.OwnScript.{commits_are_first, no_other_commits}
use Rattle.commit_laws.proofs.streams_commit_in_order.Goals as goal

pub returns-clause-counted : goal.returns-clause-counted
returns-clause-counted c = begun_are_counted

pub returns-clause-first : goal.returns-clause-first
returns-clause-first c = commits_are_first

pub returns-clause-no_other : goal.returns-clause-no_other
returns-clause-no_other c = no_other_commits
