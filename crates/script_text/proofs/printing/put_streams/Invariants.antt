use Rattle.std.proofs.Common.{◌≡◌, ◌++◌, drop}
use Rattle.std.specs.List.{flat_map}
use Rattle.script_text.specs.Spelling.{line_bytes, stream_lines}
use Rattle.script_text.proofs.printing.put_streams.Given as goal

abbrev pub invariant-loop-stream : goal.invariant-loop-stream
invariant-loop-stream l =
    l.out.items ++ flat_map line_bytes (stream_lines l.script.names l.stream (drop l.stream l.hosts) (drop l.stream l.script.operations)) ≡ l.fn.out.items ++ flat_map line_bytes (stream_lines l.script.names 0 l.hosts l.script.operations)
