-- The events of the items that were walked over are put.
use Rattle.std.proofs.Common.{◌≡◌}
use Rattle.cxl_codec.specs.declared.versions.Version.{Version}
use Rattle.trace_stream.specs.declared.progress.Progress.{Progress}
use Rattle.trace_migration.specs.Walks.{left}
use Rattle.trace_migration.proofs.Events.{LoopAt}
use Rattle.trace_migration.proofs.putting.put_events.Given as goal

abbrev pub invariant-loop-found : goal.invariant-loop-found
invariant-loop-found g l = record {
  at : LoopAt l.bytes l.walk l.fn.writer l.writer;
  begun : l.writer.progress ≡ Progress.Begun;
  version : l.writer.version ≡ Version.Two;
  faults : l.writer.out.faults ≡ l.fn.writer.out.faults;
  same_sink : l.writer.out.sink ≡ l.fn.writer.out.sink;
}

abbrev pub decreases-loop-found : goal.decreases-loop-found
decreases-loop-found g l = left l.walk
