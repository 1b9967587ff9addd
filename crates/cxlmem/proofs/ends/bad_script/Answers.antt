use Rattle.std.proofs.Common.{◌≡◌, ◌++◌, ◌∷◌, [], List, ℕ, ap, subst, ◌∙◌}
use Rattle.std.specs.Prelude.{codes}
use Rattle.cxlmem.specs.Outcomes.{WritesText}
use Rattle.std.specs.Fmt.{decimal}
use Rattle.cxlmem.specs.Texts.{bad_script_text, line}
use Rattle.cxlmem.proofs.ends.bad_script.Goals as goal

pub returns-clause-text : goal.returns-clause-text
returns-clause-text g c =
    let begun : c.push_str.new.self.bytes ≡ codes "bad script: line " = c.push_str.ensures.bytes ∙ ap (λ (t : List ℕ). t ++ codes "bad script: line ") c.new-text.ensures in
    let numbered = c.push_str-2.ensures.bytes ∙ ap (λ (t : List ℕ). t ++ c.format.result.now) begun ∙ ap (λ (t : List ℕ). codes "bad script: line " ++ t) c.format.ensures.text in
    let parted = c.push_str-3.ensures.bytes ∙ ap (λ (t : List ℕ). t ++ codes ": ") numbered in
    let reasoned = c.push_str-4.ensures.bytes ∙ ap (λ (t : List ℕ). t ++ c.word_of.result.now) parted in
    let whole = c.push_str-5.ensures.bytes ∙ ap (λ (t : List ℕ). t ++ 10 ∷ []) reasoned in
    let text : c.as_bytes.result.now ≡ bad_script_text c.args.line c.args.reason =
    c.as_bytes.ensures.value ∙ c.deref.ensures.0 ∙ whole ∙ ap (λ (w : List ℕ). line (codes "bad script: line " ++ decimal c.args.line ++ codes ": " ++ w)) c.word_of.ensures.word in
    subst (λ (t : List ℕ). WritesText (g.K.Sink.gone c.args.sink.now) (g.K.Sink.gone c.refuse.new.sink) (g.K.Sink.faults c.args.sink.now) (g.K.Sink.faults c.refuse.new.sink) t) text c.refuse.ensures
