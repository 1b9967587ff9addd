use Rattle.std.proofs.Common.{◌≡◌, ◌+◌, ◌*◌, ◌<◌, ◌≤◌, length, take}
use Rattle.std.specs.List.{flat_map, AllByRecursion}
use Rattle.cxl_codec.specs.Openings.{OpeningFits}
use Rattle.cxl_codec.specs.Traces.{opening_bytes}
use Rattle.trace_stream.specs.Buffers.{Gathers, full, reach}
use Rattle.trace_stream.proofs.buffers.Buffered.put_openings.Given as goal

abbrev pub invariant-loop-line : goal.invariant-loop-line
invariant-loop-line g l = record {
  put : Gathers l.initial.self l.self (flat_map opening_bytes (take l.line-index l.pairs));
  fits : AllByRecursion OpeningFits (take l.line-index l.pairs);
  bounded : length l.self.waiting < full;
  same_sink : l.self.sink ≡ l.initial.self.sink;
  faults : l.self.faults ≡ l.initial.self.faults;
  reached : reach l.self ≤ reach l.initial.self + 140 * l.line-index;
}
