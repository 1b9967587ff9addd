-- The hosts' agents show what their seats may mark, and the seats are still the hosts' at the close.
use Rattle.std.proofs.Common.{ap, arith, subst, sym, ◌∙◌}
use Rattle.std.proofs.lemmas.Result.{IfOk-weaker}
use Rattle.board_trial.specs.Trial.{ClosesWith, IsClosed}
use Rattle.board_trial.proofs.Closings.{closes, still_sits}
use Rattle.board_trial.proofs.Stages.{may_mark}
use Rattle.board_trial.proofs.stage.Stage.race.Goals as goal

pub mark_hits_of_both-one-requires-after_bounds : goal.mark_hits_of_both-one-requires-after_bounds
mark_hits_of_both-one-requires-after_bounds g c κs within =
    let s = c.self.inside in
    let few = c.requires in
    let board = c.in_ok-board in
    let may = may_mark s.front board.board board.ensures.board in
    let first = may 0 s.first.agent s.first.seat c.self.invariant.first c.self.invariant.first_shows g.row.N board.ensures.room in
    let second = may 1 s.second.agent s.second.seat c.self.invariant.second c.self.invariant.second_shows g.row.N board.ensures.room in
    (omega (arith, few), (few, (first, second)))

pub closed-requires : goal.closed-requires
closed-requires g c =
    let s = c.self.inside in
    let board = c.in_ok-board in
    let stage = c.self.invariant in
    let few = c.requires in
    let hosts = ap (λ b. b.setup.hosts) board.ensures.board ∙ stage.hosts in
    let first = still_sits s.front 0 s.first.seat stage.first board.board c.mark_hits_of_both-one.result.0 c.mark_hits_of_both-one.ensures.first in
    let second = still_sits s.front 1 s.second.seat stage.second board.board c.mark_hits_of_both-one.result.1 c.mark_hits_of_both-one.ensures.second in
    let third = stage.third.board ∙ ap (λ b. b.id) (sym board.ensures.board) in
    (omega (arith, few), (omega (arith, few), (hosts, (first, (second, (third, stage.third.agent))))))

pub returns : goal.returns
returns g c =
    let s = c.self.inside in
    let board = c.in_ok-board in
    let both = c.mark_hits_of_both-one in
    IfOk-weaker c.closed.result (λ r. ClosesWith board.board both.result.0 both.result.1 s.device r.first r.second r.events) (λ r. IsClosed c.args.self r.first r.second r.events)
    (λ r done.
    subst (λ f. IsClosed f r.first r.second r.events) c.self.view_is
    (closes s.front s.first s.second s.device c.self.invariant board.board board.ensures.board both.result.0 both.result.1 r.first r.second r.events both.ensures.first both.ensures.second done))
    c.closed.ensures
