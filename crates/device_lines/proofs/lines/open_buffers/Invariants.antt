-- As many buffers as were counted.
use Rattle.std.proofs.Common.{◌≡◌, [], replicate}
use Rattle.device_lines.proofs.lines.open_buffers.Given as goal

abbrev pub invariant-loop : goal.invariant-loop
invariant-loop l = l.buffers.items ≡ replicate l.counter []
