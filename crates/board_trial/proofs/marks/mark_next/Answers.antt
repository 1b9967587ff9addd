-- The note has the whole run of the machine, and the seat has seen just that once it has met the note.
use Rattle.std.proofs.Common.{IsTrue, inl, subst, sym, ◌∙◌}
use Rattle.std.proofs.lemmas.Result.{err_from_is_err_and}
use Rattle.coherence_model.specs.Runs.{is_allowed}
use Rattle.board_trial.proofs.Shown.{is_broken, longer_is_later, shown_allowed}
use Rattle.board_trial.proofs.marks.mark_next.Goals as goal

pub mark-requires-clause-allowed : goal.mark-requires-clause-allowed
mark-requires-clause-allowed c =
    let b = c.args.board.now in
    let e = c.args.event.now in
    let met = c.meet.ensures.seen ∙ longer_is_later c.args.seat.now.seen c.args.note.seen c.requires.own.front in
    subst (λ t. IsTrue (is_allowed b.setup b.opening t e)) (sym met)
    (shown_allowed b.setup b.opening c.args.note.seen e _ (c.in_ok-apply.ensures.goes_on b.setup b.opening c.args.note.seen c.requires.stands))

pub returns-in_err-apply-clause-refused : goal.returns-in_err-apply-clause-refused
returns-in_err-apply-clause-refused c =
    let b = c.args.board.now in
    let t = c.args.note.seen in
    let p = err_from_is_err_and c.from_residual.result c.from_residual.ensures.1 in
    rw (p.1, p.2) (inl (is_broken b t c.args.event.now _ (c.in_err-apply.ensures.answer b.setup b.opening t c.requires.stands)))
