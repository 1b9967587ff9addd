-- The takes of the hosts so far are counted.
use Rattle.std.proofs.Common.{◌≡◌, ◌*◌, ◌≤◌, length}
use Rattle.machine.specs.Stands.{WhereStands}
use Rattle.machine.specs.Steps.{takes_below}
use Rattle.machine.proofs.machine.Machine.take_count.Given as goal

abbrev pub invariant-loop-host : goal.invariant-loop-host
invariant-loop-host l = (l.count ≤ 1536 * l.host) × WhereStands l.self (λ setup opening t. l.count ≡ length (takes_below t l.host))
