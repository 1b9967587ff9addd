-- A host's own events follow the script of what they began.
use Rattle.commit_laws.proofs.Begun.{own_are_counted}
use Rattle.commit_laws.proofs.OwnWaits.{own_commits_are_first}
use Rattle.commit_laws.proofs.own_streams_commit_in_order.Goals as goal

pub returns-clause-counted : goal.returns-clause-counted
returns-clause-counted c = own_are_counted

pub returns-clause-first : goal.returns-clause-first
returns-clause-first c = own_commits_are_first
