use Rattle.std.proofs.Common.{◌≡◌, ◌*◌, ◌-◌, ◌≤◌, length, take}
use Rattle.std.specs.Io.KnownBytes.{Appends}
use Rattle.outside_io.specs.Counts.{RisesAtMost}
use Rattle.outside_io.proofs.whole.write_all.Given as goal

abbrev pub invariant-loop-gone : goal.invariant-loop-gone
invariant-loop-gone g l = record {
  in_range : l.gone ≤ length l.bytes;
  went : Appends (g.K.Sink.gone l.initial.sink) (g.K.Sink.gone l.sink) (take l.gone l.bytes);
  faults : g.K.Sink.faults l.sink ≡ g.K.Sink.faults l.initial.sink;
  counts : RisesAtMost (2 * l.gone) (g.K.Sink.highest_count l.initial.sink) (g.K.Sink.highest_count l.sink);
}

abbrev pub decreases-loop-gone : goal.decreases-loop-gone
decreases-loop-gone g l = length l.bytes - l.gone
