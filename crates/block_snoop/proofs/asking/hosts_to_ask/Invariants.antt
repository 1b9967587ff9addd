-- The hosts so far.
use Rattle.std.proofs.Common.{◌≡◌, ◌≤◌}
use Rattle.std.specs.Prelude.{filter}
use Rattle.arrayvec.specs.ArrayVec.{array_vec_len}
use Rattle.cxl_message.specs.Lists.{below}
use Rattle.block_snoop.specs.Asking.{is_asked_for}
use Rattle.block_snoop.proofs.asking.hosts_to_ask.Given as goal

abbrev pub invariant-loop-host : goal.invariant-loop-host
invariant-loop-host l = (l.asked.items ≡ filter (is_asked_for l.purpose l.block l.filter.rows) (below l.host)) × (array_vec_len l.asked ≤ l.host)
