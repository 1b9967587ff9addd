-- The requests so far are passed.
use Rattle.std.proofs.Common.{◌≡◌, take}
use Rattle.std.specs.Prelude.{flat_map}
use Rattle.device_record.specs.Acts.{waiting_acts}
use Rattle.device_acts.specs.Searching.{searched}
use Rattle.device_acts.proofs.sections.pass_waiting.Given as goal

abbrev pub invariant-loop-request : goal.invariant-loop-request
invariant-loop-request l = l.search ≡ searched (flat_map (waiting_acts l.tables.setup l.tables.kept l.host) (take l.request-index l.waiting)) l.initial.search
