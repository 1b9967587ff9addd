use Rattle.std.proofs.Common.{ℕ, ◌++◌, ◌∙◌, List, ap, map, refl}
use Rattle.std.specs.Prelude.{codes}
use Rattle.std.specs.List.{flat_map}
use Rattle.script_text.specs.declared.lines.ScriptLine.{ScriptLine}
use Rattle.script_text.specs.Spelling.{line_bytes, setting}
use Rattle.script_text.proofs.Appending.{appended_all, appended_more}
use Rattle.script_text.proofs.printing.put_picks.Goals as goal

pub loop-pick-init : goal.loop-pick-init
loop-pick-init c = refl

pub loop-pick-preserved : goal.loop-pick-preserved
loop-pick-preserved c =
    appended_more (λ picks. flat_map line_bytes (map (λ pick. ScriptLine.Pick pick) picks)) _ c.picks-pick-items.result.now c.loop-pick.pick-index _ _ _ _ c.loop-pick-test.true refl (c.in_ok-put_setting.ensures ∙ ap (λ (n : ℕ). c.loop-pick.out.items ++ setting (codes "pick") n) c.from.ensures)
    c.loop-pick.invariant

pub returns : goal.returns
returns c =
    appended_all (λ picks. flat_map line_bytes (map (λ pick. ScriptLine.Pick pick) picks)) c.picks-pick-items.result.now c.loop-pick.pick-index _ _ refl c.loop-pick-test.false c.loop-pick.invariant
    ∙ ap (λ (picks : List ℕ). c.args.out.now.items ++ flat_map line_bytes (map (λ pick. ScriptLine.Pick pick) picks)) c.picks-pick-items.ensures.picks
