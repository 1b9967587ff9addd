use Rattle.std.proofs.Common.{◌≡◌, [], map, replicate}
use Rattle.script_text.proofs.generating.empty_streams.Given as goal

abbrev pub invariant-loop : goal.invariant-loop
invariant-loop l = map (λ ops. ops.items) l.streams.items ≡ replicate l.counter []
