-- By recursion over the host's own events.
use Rattle.request_laws.proofs.HostFacts.{no_line_twice}
use Rattle.request_laws.proofs.buffered_snoops_are_disjoint.Goals as goal

pub returns : goal.returns
returns c = record { once = no_line_twice }
