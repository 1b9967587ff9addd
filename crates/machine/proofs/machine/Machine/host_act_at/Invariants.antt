-- The acts of the hosts so far are passed.
use Rattle.std.proofs.Common.{◌≡◌, ◌+◌, length}
use Rattle.machine.specs.Stands.{WhereStands}
use Rattle.machine.specs.Steps.{host_acts_below}
use Rattle.machine.proofs.machine.Machine.host_act_at.Given as goal

abbrev pub invariant-loop-host : goal.invariant-loop-host
invariant-loop-host l = WhereStands l.self (λ setup opening t. l.k ≡ length (host_acts_below setup t l.host) + l.left)
