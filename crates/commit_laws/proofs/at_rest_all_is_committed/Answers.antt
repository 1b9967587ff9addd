-- A stream that waits has a request open.
use Rattle.commit_laws.proofs.Rest.{at_rest_all_is_committed, at_rest_no_stream_waits}
use Rattle.commit_laws.proofs.at_rest_all_is_committed.Goals as goal

pub returns-clause-waits : goal.returns-clause-waits
returns-clause-waits c = at_rest_no_stream_waits

pub returns-clause-all : goal.returns-clause-all
returns-clause-all c = at_rest_all_is_committed
