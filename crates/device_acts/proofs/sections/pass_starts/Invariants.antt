-- The requests of the hosts so far are passed.
use Rattle.std.proofs.Common.{◌≡◌}
use Rattle.std.specs.Prelude.{flat_map}
use Rattle.cxl_message.specs.Lists.{below}
use Rattle.device_acts.specs.Searching.{searched}
use Rattle.device_acts.specs.Sections.{starts_at}
use Rattle.device_acts.proofs.sections.pass_starts.Given as goal

abbrev pub invariant-loop-host : goal.invariant-loop-host
invariant-loop-host l = l.search ≡ searched (flat_map (starts_at l.tables) (below l.host)) l.initial.search
