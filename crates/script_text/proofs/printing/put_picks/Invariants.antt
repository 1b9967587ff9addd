use Rattle.std.proofs.Common.{◌≡◌, ◌++◌, drop, map}
use Rattle.std.specs.List.{flat_map}
use Rattle.script_text.specs.declared.lines.ScriptLine.{ScriptLine}
use Rattle.script_text.specs.Spelling.{line_bytes}
use Rattle.script_text.proofs.printing.put_picks.Given as goal

abbrev pub invariant-loop-pick : goal.invariant-loop-pick
invariant-loop-pick l = l.out.items ++ flat_map line_bytes (map (λ pick. ScriptLine.Pick pick) (drop l.pick-index l.pick-items)) ≡ l.fn.out.items ++ flat_map line_bytes (map (λ pick. ScriptLine.Pick pick) l.pick-items)
