-- The serves of the messages so far are passed.
use Rattle.std.proofs.Common.{◌≡◌, take}
use Rattle.std.specs.Prelude.{flat_map}
use Rattle.device_record.specs.Acts.{serve_acts}
use Rattle.device_record.specs.Record.{writes_at}
use Rattle.device_acts.specs.Searching.{searched}
use Rattle.device_acts.proofs.sections.pass_serves_of.Given as goal

abbrev pub invariant-loop-number : goal.invariant-loop-number
invariant-loop-number l = l.search ≡ searched (flat_map (serve_acts l.tables.setup l.tables.kept l.host) (take l.number (writes_at l.host l.tables.kept.writes))) l.initial.search
