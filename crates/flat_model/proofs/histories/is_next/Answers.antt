-- The history of a legal commit is one commit longer.
use Rattle.std.proofs.Common.{ap, length, sym, ◌∙◌, ◌∷◌}
use Rattle.cxl_message.proofs.SameNames.{bytes_eq-same}
use Rattle.flat_model.specs.Histories.{flat_lines}
use Rattle.flat_model.proofs.histories.is_next.Goals as goal

pub returns-then-place_exists-clause-stands : goal.returns-then-place_exists-clause-stands
returns-then-place_exists-clause-stands c opening older is same =
    let commit = c.args.commit.now in
    c.apply.ensures.stands opening older is commit.stream commit.index
    ∙ ap (λ v. flat_lines (length c.args.flat.now) opening (record commit { value = v } ∷ older)) (bytes_eq-same c.apply.result commit.value (sym c.eq.ensures ∙ same))
