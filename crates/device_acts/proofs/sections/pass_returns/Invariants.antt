-- The returns to the hosts so far are passed.
use Rattle.std.proofs.Common.{◌≡◌}
use Rattle.std.specs.Prelude.{flat_map}
use Rattle.cxl_message.specs.Lists.{below}
use Rattle.device_record.specs.Acts.{return_acts}
use Rattle.device_acts.specs.Searching.{searched}
use Rattle.device_acts.proofs.sections.pass_returns.Given as goal

abbrev pub invariant-loop-host : goal.invariant-loop-host
invariant-loop-host l = l.search ≡ searched (flat_map (return_acts l.tables.setup l.tables.kept) (below l.host)) l.initial.search
