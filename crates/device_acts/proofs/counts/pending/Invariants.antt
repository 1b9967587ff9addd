-- No message of the hosts so far is buffered.
use Rattle.std.proofs.Common.{◌≡◌, false}
use Rattle.std.specs.List.{list_any}
use Rattle.cxl_message.specs.Lists.{below}
use Rattle.device_record.specs.Weights.{has_buffered}
use Rattle.device_acts.proofs.counts.pending.Given as goal

abbrev pub invariant-loop-host : goal.invariant-loop-host
invariant-loop-host l = list_any (has_buffered l.tables.kept) (below l.host) ≡ false
