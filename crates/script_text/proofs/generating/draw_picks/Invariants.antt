use Rattle.std.proofs.Common.{◌≡◌}
use Rattle.script_text.specs.Generator.{drawn_picks}
use Rattle.script_text.proofs.generating.draw_picks.Given as goal

abbrev pub invariant-loop : goal.invariant-loop
invariant-loop l = record { picks : l.picks.items ≡ (drawn_picks l.fn.draws.0 l.counter).0; number : l.draws.0 ≡ (drawn_picks l.fn.draws.0 l.counter).1 }
