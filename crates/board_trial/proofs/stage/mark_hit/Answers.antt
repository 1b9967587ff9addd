-- The mark adds its number to the seat's.
use Rattle.std.proofs.Common.{[], ap, arith, length, ◌+◌, ◌∙◌, ◌∷◌, ◌≡◌}
use Rattle.std.proofs.lemmas.Result.{IfOk-weaker}
use Rattle.fabric_rule.specs.Values.{mine}
use Rattle.board_trial.specs.Trial.{HasMade, HasMarked, ShowsOwn}
use Rattle.board_trial.proofs.Closings.{made_one}
use Rattle.board_trial.proofs.stage.mark_hit.Goals as goal

pub mark_own-requires-clause-shows : goal.mark_own-requires-clause-shows
mark_own-requires-clause-shows c = c.requires.1

pub returns-clause-shows : goal.returns-clause-shows
returns-clause-shows c =
    let b = c.args.board.now in
    let marked = c.mark_own in
    IfOk-weaker marked.result (λ n. HasMarked b c.load-cause.result n c.args.seat.now marked.new.seat) (λ n. ShowsOwn b marked.new.agent marked.new.seat)
    (λ n m. marked.ensures.shows)
    marked.ensures.own

pub returns-clause-made : goal.returns-clause-made
returns-clause-made c =
    let b = c.args.board.now in
    let old = c.args.seat.now in
    let marked = c.mark_own in
    IfOk-weaker marked.result (λ n. HasMarked b c.load-cause.result n old marked.new.seat) (λ n. HasMade b old (n ∷ []) marked.new.seat)
    (λ n m. made_one b c.load-cause.result n old marked.new.seat (marked.ensures.board ∙ c.requires.0) marked.ensures.agent m)
    marked.ensures.own

pub returns-clause-room : goal.returns-clause-room
returns-clause-room c =
    let b = c.args.board.now in
    let old = c.args.seat.now in
    let marked = c.mark_own in
    IfOk-weaker marked.result (λ n. HasMarked b c.load-cause.result n old marked.new.seat) (λ n. length (mine marked.new.seat) ≡ length (mine old) + 1)
    (λ n m. let long = ap length m.own in omega (arith, long))
    marked.ensures.own
