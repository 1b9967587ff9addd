-- The snoops to the hosts so far are passed, and it is told whether one of them is Asked or to be asked.
use Rattle.std.proofs.Common.{◌≡◌}
use Rattle.std.specs.Prelude.{flat_map}
use Rattle.cxl_message.specs.Lists.{below}
use Rattle.device_record.specs.Answers.{is_finished}
use Rattle.device_acts.specs.Searching.{searched}
use Rattle.device_acts.specs.Sections.{snoop_for}
use Rattle.device_acts.proofs.sections.pass_snoops.Given as goal

abbrev pub invariant-loop-host : goal.invariant-loop-host
invariant-loop-host l =
    (l.is_finished ≡ is_finished l.host l.tables.kept.filter.rows l.task) × (l.search ≡ searched (flat_map (snoop_for l.tables l.task) (below l.host)) l.initial.search)
