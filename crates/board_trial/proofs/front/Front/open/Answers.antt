-- The seats have seen nothing, and the note neither.
use Rattle.std.proofs.Common.{[], ap, sym, ◌∙◌, ◌∷◌}
use Rattle.board_trial.proofs.Stages.{new_front}
use Rattle.board_trial.proofs.front.Front.open.Goals as goal

pub invariant_of-front : goal.invariant_of-front
invariant_of-front c =
    let board = c.in_ok-board.ensures in
    new_front c.in_ok-board.board c.args.room c.in-Ok.machine c.note-note.result c.args.setup.now _ _ _ c.three_of-first.result.2 c.requires.hosts board.setup board.opening board.room
    (sym board.seats ∙ c.three_of-first.ensures) c.note-note.ensures.board c.note-note.ensures.seen c.in-Ok.ensures.stands

pub returns-clause-seats : goal.returns-clause-seats
returns-clause-seats c =
    let r = c.three_of-first.result in
    sym c.in_ok-board.ensures.seats ∙ c.three_of-first.ensures ∙ ap (λ d. r.0 ∷ r.1 ∷ d ∷ []) (sym c.note-note.ensures.same)
