-- The takes of the hosts so far are passed.
use Rattle.std.proofs.Common.{◌≡◌, ◌+◌, length}
use Rattle.machine.specs.Stands.{WhereStands}
use Rattle.machine.specs.Steps.{takes_below}
use Rattle.machine.proofs.machine.Machine.take_at.Given as goal

abbrev pub invariant-loop-host : goal.invariant-loop-host
invariant-loop-host l = WhereStands l.self (λ setup opening t. l.k ≡ length (takes_below t l.host) + l.left)
