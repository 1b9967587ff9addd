-- So many seats were split off, and there is no event.
use Rattle.std.proofs.Common.{◌≡◌, []}
use Rattle.cxl_message.specs.Lists.{below}
use Rattle.fabric_rule.specs.Board.{device_view}
use Rattle.fabric_rule.specs.Values.{new_seats}
use Rattle.fabric_rule.proofs.board.host_seats.Given as goal

abbrev pub invariant-loop-host : goal.invariant-loop-host
invariant-loop-host l = (l.device.table_id ≡ l.table.shared.table_id) × (l.device.me ≡ (device_view l.host, [])) × (l.seats.items ≡ new_seats l.table.shared.table_id (below l.host))
