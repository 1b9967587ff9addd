use Rattle.std.proofs.Common.{◌≡◌, ◌+◌, ◌*◌, ◌<◌}
use Rattle.cxl_codec.specs.declared.versions.Version.{Version}
use Rattle.trace_stream.specs.Buffers.{reach}
use Rattle.trace_stream.specs.declared.progress.Progress.{Progress}
use Rattle.stream_bench.proofs.writing.put_groups.Given as goal

abbrev pub invariant-loop-number : goal.invariant-loop-number
invariant-loop-number g l = record {
  begun : l.writer.progress ≡ Progress.Begun;
  version : l.writer.version ≡ Version.One;
  count : l.writer.count ≡ 11 * l.number;
  counts : reach l.writer.out < 2000 + 8800 * l.number;
}
