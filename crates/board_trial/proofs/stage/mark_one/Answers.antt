-- The mark adds its number to the seat's.
use Rattle.std.proofs.Common.{◌∙◌}
use Rattle.board_trial.proofs.Closings.{made_one}
use Rattle.board_trial.proofs.stage.mark_one.Goals as goal

pub mark_own-requires-clause-shows : goal.mark_own-requires-clause-shows
mark_own-requires-clause-shows c = c.requires.may.1

pub returns : goal.returns
returns c =
    let old = c.args.host.seat in
    let marked = c.mark_own in
    made_one c.args.board.now c.args.cause.now c.in_ok-number.number old marked.new.seat (marked.ensures.board ∙ c.requires.may.0) marked.ensures.agent c.in_ok-number.ensures.own
