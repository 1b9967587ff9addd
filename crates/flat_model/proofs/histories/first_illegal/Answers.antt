-- The first commit that isn't legal is named, and a legal one makes the history longer.
use Rattle.std.proofs.Common.{[], ap, get_or, sym, ◌∙◌, ◌∷◌}
use Rattle.std.proofs.lemmas.List.{drop_more}
use Rattle.cxl_message.specs.declared.events.Commit.{Commit}
use Rattle.cxl_message.specs.declared.events.Op.{Op}
use Rattle.coherence_model.specs.FlatMemory.{commit_is_legal}
use Rattle.flat_model.specs.Histories.{flat_lines}
use Rattle.flat_model.proofs.Lines.{judged_on, judged_out, of_len, of_own_len}
use Rattle.flat_model.proofs.histories.first_illegal.Goals as goal

-- what a place past the last commit would hold
abbrev no_commit : Commit
no_commit = record { stream = 0; index = 0; op = Op.Load (record { 0 = 0 }); value = record { 0 = [] } }

pub returns-then-not-is_next : goal.returns-then-not-is_next
returns-then-not-is_next c =
    let n = c.args.setup.now.lines in
    let opening = c.args.opening.now in
    let older = c.loop-place.invariant.0 in
    let is = c.loop-place.invariant.1 in
    let commit = get_or c.args.commits.now c.loop-place.place no_commit in
    let next = drop_more c.args.commits.now c.loop-place.place no_commit c.loop-place-test.true in
    let legal = c.is_next.ensures.legal opening older (of_own_len n c.loop-place.flat opening older is) in
    judged_out n c.loop-place.place opening older c.args.commits.now commit _ next
    (ap (λ k. commit_is_legal k opening commit older) (sym (of_len n c.loop-place.flat opening older is)) ∙ sym legal ∙ c.if-not-is_next.true) c.loop-place.invariant.2

pub loop-place-preserved : goal.loop-place-preserved
loop-place-preserved c =
    let n = c.args.setup.now.lines in
    let opening = c.args.opening.now in
    let older = c.loop-place.invariant.0 in
    let is = c.loop-place.invariant.1 in
    let len = of_len n c.loop-place.flat opening older is in
    let own = of_own_len n c.loop-place.flat opening older is in
    let commit = get_or c.args.commits.now c.loop-place.place no_commit in
    let next = drop_more c.args.commits.now c.loop-place.place no_commit c.loop-place-test.true in
    let legal = c.is_next.ensures.legal opening older own in
    let stands = c.is_next.ensures.stands opening older own c.if-not-is_next.false in (
      commit ∷ older,
      stands ∙ ap (λ k. flat_lines k opening (commit ∷ older)) len,
      judged_on n c.loop-place.place opening older c.args.commits.now commit _ next
          (ap (λ k. commit_is_legal k opening commit older) (sym len) ∙ sym legal ∙ c.if-not-is_next.false) c.loop-place.invariant.2,
    )
