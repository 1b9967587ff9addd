-- No other host so far is listed.
use Rattle.std.proofs.Common.{◌≡◌, false}
use Rattle.std.specs.Prelude.{not, ◌==◌, ◌&&◌}
use Rattle.std.specs.List.{list_any}
use Rattle.cxl_message.specs.Lists.{below}
use Rattle.snoop_filter.specs.Rows.{is_some_listing, listed_in}
use Rattle.device_rows.proofs.task_rows.shared_grant.Given as goal

abbrev pub invariant-loop-host : goal.invariant-loop-host
invariant-loop-host l = list_any (λ g. not (l.task.host == g) && is_some_listing (listed_in l.task.first g l.filter.rows)) (below l.host) ≡ false
