-- The hosts so far stand for no events.
use Rattle.std.proofs.Common.{◌≡◌, [], length}
use Rattle.machine.specs.Stands.{HostsStandFor}
use Rattle.machine.proofs.opening.open_hosts.Given as goal

abbrev pub invariant-loop-host : goal.invariant-loop-host
invariant-loop-host l = (length l.hosts.items ≡ l.host) × HostsStandFor l.hosts.items l.setup []
