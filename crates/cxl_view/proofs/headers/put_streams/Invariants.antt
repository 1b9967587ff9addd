use Rattle.std.proofs.Common.{◌≡◌, ◌+◌, ◌*◌, ◌≤◌, ◌++◌, drop, length, vec_len, vec_capacity}
use Rattle.cxl_view.specs.Traces.{stream_lines}
use Rattle.cxl_view.proofs.headers.put_streams.Given as goal

abbrev pub invariant-loop-stream : goal.invariant-loop-stream
invariant-loop-stream l =
    (l.out.items ++ stream_lines l.stream (drop l.stream l.hosts) ≡ l.fn.out.items ++ stream_lines 0 l.hosts) × (vec_len l.out + 54 * length l.hosts ≤ vec_capacity l.out + 54 * l.stream)
