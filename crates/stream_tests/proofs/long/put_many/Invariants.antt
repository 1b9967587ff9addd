use Rattle.std.proofs.Common.{◌≡◌, ◌+◌, ◌*◌, ◌<◌}
use Rattle.cxl_codec.specs.declared.versions.Version.{Version}
use Rattle.trace_stream.specs.Buffers.{reach}
use Rattle.trace_stream.specs.declared.progress.Progress.{Progress}
use Rattle.stream_tests.proofs.long.put_many.Given as goal

abbrev pub invariant-loop : goal.invariant-loop
invariant-loop g l = record {
  begun : l.writer.progress ≡ Progress.Begun;
  count : l.writer.count ≡ l.counter;
  version : l.writer.version ≡ Version.One;
  counts : reach l.writer.out < 1300 + 800 * l.counter;
}
