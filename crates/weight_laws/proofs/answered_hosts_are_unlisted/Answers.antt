-- By recursion over the run.
use Rattle.weight_laws.proofs.Answered.{are_unlisted}
use Rattle.weight_laws.proofs.Listings.{device_known}
use Rattle.weight_laws.proofs.answered_hosts_are_unlisted.Goals as goal

pub returns : goal.returns
returns c setup opening limits t run h first q task asked stands evicts a covered answered =
    are_unlisted setup opening (device_known setup opening limits) t run h first q task asked stands evicts a covered answered
