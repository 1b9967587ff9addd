-- No count of a line is at its end, since none is greater than the number of events.
use Rattle.std.proofs.Common.{◌≡◌, ap, arith}
use Rattle.cxl_view.specs.Tallies.{Counts}
use Rattle.cxl_view.proofs.Within.{all_within_more}
use Rattle.cxl_view.proofs.tallies.Tallies.count_parts.Goals as goal

pub count_cause-requires : goal.count_cause-requires
count_cause-requires c =
    let same : c.self.inside.events ≡ c.args.self.now.events = ap (λ (t : Counts). t.events) c.self.view_is in
    all_within_more c.self.inside.events 18446744073709551614 c.self.inside.on_lines.entries (omega (arith, same, c.requires)) c.self.invariant.each_line
