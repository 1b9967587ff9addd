-- The hosts' agents show what their seats may mark, and the seats are still the hosts' at the close.
use Rattle.std.proofs.Common.{ap, arith, subst, sym, ◌∙◌}
use Rattle.std.proofs.lemmas.Result.{IfOk-weaker}
use Rattle.board_trial.specs.Trial.{ClosesWith, IsClosed}
use Rattle.board_trial.proofs.Closings.{closes, still_sits}
use Rattle.board_trial.proofs.Stages.{may_mark}
use Rattle.board_trial.proofs.stage.Stage.mark_apart.Goals as goal

pub mark_one-one-requires-clause-may : goal.mark_one-one-requires-clause-may
mark_one-one-requires-clause-may c =
    let s = c.self.inside in
    let board = c.in_ok-board in
    may_mark s.front board.board board.ensures.board 0 s.first.agent s.first.seat c.self.invariant.first c.self.invariant.first_shows 1 board.ensures.room

pub mark_one-two-requires-clause-may : goal.mark_one-two-requires-clause-may
mark_one-two-requires-clause-may c =
    let s = c.self.inside in
    let board = c.in_ok-board in
    may_mark s.front board.board board.ensures.board 1 s.second.agent s.second.seat c.self.invariant.second c.self.invariant.second_shows 1 board.ensures.room

pub closed-requires : goal.closed-requires
closed-requires c =
    let s = c.self.inside in
    let board = c.in_ok-board in
    let stage = c.self.invariant in
    let hosts = ap (λ b. b.setup.hosts) board.ensures.board ∙ stage.hosts in
    let first = still_sits s.front 0 s.first.seat stage.first board.board c.mark_one-one.result c.mark_one-one.ensures in
    let second = still_sits s.front 1 s.second.seat stage.second board.board c.mark_one-two.result c.mark_one-two.ensures in
    let third = stage.third.board ∙ ap (λ b. b.id) (sym board.ensures.board) in
    (omega arith, (omega arith, (hosts, (first, (second, (third, stage.third.agent))))))

pub returns : goal.returns
returns c =
    let s = c.self.inside in
    let board = c.in_ok-board in
    let one = c.mark_one-one in
    let two = c.mark_one-two in
    IfOk-weaker c.closed.result (λ r. ClosesWith board.board one.result two.result s.device r.first r.second r.events) (λ r. IsClosed c.args.self r.first r.second r.events)
    (λ r done.
    subst (λ f. IsClosed f r.first r.second r.events) c.self.view_is
    (closes s.front s.first s.second s.device c.self.invariant board.board board.ensures.board one.result two.result r.first r.second r.events one.ensures two.ensures done))
    c.closed.ensures
