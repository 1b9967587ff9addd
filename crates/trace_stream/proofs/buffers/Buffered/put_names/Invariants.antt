use Rattle.std.proofs.Common.{◌≡◌, ◌+◌, ◌*◌, ◌<◌, ◌≤◌, length, take}
use Rattle.std.specs.List.{flat_map, AllByRecursion}
use Rattle.cxl_codec.specs.NameRecord.{NameFits}
use Rattle.cxl_codec.specs.Traces.{name_bytes}
use Rattle.trace_stream.specs.Buffers.{Gathers, full, reach}
use Rattle.trace_stream.proofs.buffers.Buffered.put_names.Given as goal

abbrev pub invariant-loop-place : goal.invariant-loop-place
invariant-loop-place g l = record {
  put : Gathers l.initial.self l.self (flat_map name_bytes (take l.place l.names));
  fits : AllByRecursion NameFits (take l.place l.names);
  bounded : length l.self.waiting < full;
  same_sink : l.self.sink ≡ l.initial.self.sink;
  faults : l.self.faults ≡ l.initial.self.faults;
  reached : reach l.self ≤ reach l.initial.self + 80 * l.place;
}
