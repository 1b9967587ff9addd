-- As many requests as were counted.
use Rattle.std.proofs.Common.{◌≡◌, [], replicate}
use Rattle.device_state.proofs.opening.open_requests.Given as goal

abbrev pub invariant-loop : goal.invariant-loop
invariant-loop l = l.requests.items ≡ replicate l.counter []
