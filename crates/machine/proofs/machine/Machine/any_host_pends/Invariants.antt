-- At the hosts so far nothing is open or snooped.
use Rattle.std.proofs.Common.{◌≡◌, false}
use Rattle.machine.specs.Stands.{WhereStands, hosts_pending}
use Rattle.machine.proofs.machine.Machine.any_host_pends.Given as goal

abbrev pub invariant-loop-host : goal.invariant-loop-host
invariant-loop-host l = WhereStands l.self (λ setup opening t. false ≡ hosts_pending setup t l.host)
