-- By the write-backs under way and the snoops that their hosts hold.
use Rattle.weight_laws.proofs.SharedRuns.{shared_writes_serve}
use Rattle.weight_laws.proofs.shared_writes_serve_reads.Goals as goal

pub returns : goal.returns
returns c = shared_writes_serve
