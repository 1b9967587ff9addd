-- The copies at the hosts so far stand in their places.
use Rattle.std.proofs.Common.{◌≡◌}
use Rattle.coherence_laws.specs.Laws.{copies_of_first}
use Rattle.machine.specs.Stands.{WhereStands}
use Rattle.coherence_laws.proofs.lines.copies.Given as goal

abbrev pub invariant-loop-host : goal.invariant-loop-host
invariant-loop-host l = WhereStands l.machine (λ setup opening t. l.states ≡ copies_of_first setup t l.line.0 l.host)
