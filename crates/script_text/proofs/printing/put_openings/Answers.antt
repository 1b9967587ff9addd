use Rattle.std.proofs.Common.{◌++◌, ◌∙◌, List, ap, map, refl}
use Rattle.std.specs.List.{flat_map}
use Rattle.cxl_message.specs.declared.identifiers.Bytes64.{Bytes64}
use Rattle.cxl_message.specs.declared.identifiers.Line.{Line}
use Rattle.script_text.specs.Spelling.{line_bytes, open_line}
use Rattle.script_text.proofs.Appending.{appended_all, appended_more}
use Rattle.script_text.proofs.printing.put_openings.Goals as goal

pub loop-line-init : goal.loop-line-init
loop-line-init c = refl

pub loop-line-preserved : goal.loop-line-preserved
loop-line-preserved c =
    appended_more (λ pairs. flat_map line_bytes (map open_line pairs)) _ c.pairs-line-items.result.now c.loop-line.line-index _ _ _ _ c.loop-line-test.true refl c.in_ok-put_line_and_bytes.ensures
    c.loop-line.invariant

pub returns : goal.returns
returns c =
    appended_all (λ pairs. flat_map line_bytes (map open_line pairs)) c.pairs-line-items.result.now c.loop-line.line-index _ _ refl c.loop-line-test.false c.loop-line.invariant
    ∙ ap (λ (pairs : List (Line × Bytes64)). c.args.out.now.items ++ flat_map line_bytes (map open_line pairs)) (c.pairs-line-items.ensures.pairs ∙ c.opening.ensures.opening)
