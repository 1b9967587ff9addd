use Rattle.std.proofs.Common.{◌≡◌, length, map}
use Rattle.cxl_message.specs.declared.limits.TheConstants.{MAX_STREAMS}
use Rattle.script_text.specs.Generator.{drawn_operations}
use Rattle.script_text.proofs.generating.draw_operations.Given as goal

abbrev pub invariant-loop-n : goal.invariant-loop-n
invariant-loop-n l = record { streams : length l.streams.items ≡ MAX_STREAMS; operations : map (λ ops. ops.items) l.streams.items ≡ (drawn_operations l.fn.draws.0 l.n).0; number : l.draws.0 ≡ (drawn_operations l.fn.draws.0 l.n).1 }
