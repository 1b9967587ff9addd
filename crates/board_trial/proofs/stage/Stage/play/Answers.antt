-- The event's seat has seen the whole run, and its agent made the event; the others have none of its events.
use Rattle.std.proofs.Common.{ap, subst, sym, ◌∙◌, ◌∷◌}
use Rattle.board_trial.specs.Trial.{SitsBy}
use Rattle.board_trial.proofs.Stages.{first_advanced, second_advanced, third_advanced}
use Rattle.board_trial.proofs.stage.Stage.play.Goals as goal

pub play-requires-clause-seat : goal.play-requires-clause-seat
play-requires-clause-seat c =
    let s = c.self.inside in
    subst (λ n. SitsBy s.front n s.first.seat) (sym c.in-0.is) c.self.invariant.first

pub play-requires-clause-shows : goal.play-requires-clause-shows
play-requires-clause-shows c = c.self.invariant.first_shows

pub play-requires-in-1-clause-seat : goal.play-requires-in-1-clause-seat
play-requires-in-1-clause-seat c =
    let s = c.self.inside in
    subst (λ n. SitsBy s.front n s.second.seat) (sym c.in-1.is) c.self.invariant.second

pub play-requires-in-1-clause-shows : goal.play-requires-in-1-clause-shows
play-requires-in-1-clause-shows c = c.self.invariant.second_shows

pub advance-requires : goal.advance-requires
advance-requires c =
    let s = c.self.inside in
    record { seat = subst (λ n. SitsBy s.front n s.device) (sym c.in-16.is) c.self.invariant.third }

pub invariant_of-result : goal.invariant_of-result
invariant_of-result c =
    let s = c.self.inside in
    let new = c.in_ok-front-in-0 in
    first_advanced s.front new.front s.first s.second s.device c.args.event.now c.in-0.is c.self.invariant new.ensures.front.0 new.ensures.front.1 c.play.new.self new.ensures.seat new.ensures.shows

pub invariant_of-result-in-1 : goal.invariant_of-result-in-1
invariant_of-result-in-1 c =
    let s = c.self.inside in
    let new = c.in_ok-front-in-1 in
    second_advanced s.front new.front s.first s.second s.device c.args.event.now c.in-1.is c.self.invariant new.ensures.front.0 new.ensures.front.1 c.play-in-1.new.self new.ensures.seat new.ensures.shows

pub invariant_of-result-in-16 : goal.invariant_of-result-in-16
invariant_of-result-in-16 c =
    let s = c.self.inside in
    let new = c.in_ok-front-in-16 in
    third_advanced s.front new.front s.first s.second s.device c.args.event.now c.in-16.is c.self.invariant new.ensures.front.0 new.ensures.front.1 c.advance.new.seat new.ensures.seat

pub returns-in_ok-front-in-0 : goal.returns-in_ok-front-in-0
returns-in_ok-front-in-0 c =
    let new = c.in_ok-front-in-0.ensures.front in
    (new.0 ∙ ap (λ f. f.board) c.self.view_is, new.1 ∙ ap (λ f. c.args.event.now ∷ f.seen) c.self.view_is)

pub returns-in_ok-front-in-1 : goal.returns-in_ok-front-in-1
returns-in_ok-front-in-1 c =
    let new = c.in_ok-front-in-1.ensures.front in
    (new.0 ∙ ap (λ f. f.board) c.self.view_is, new.1 ∙ ap (λ f. c.args.event.now ∷ f.seen) c.self.view_is)

pub returns-in_ok-front-in-16 : goal.returns-in_ok-front-in-16
returns-in_ok-front-in-16 c =
    let new = c.in_ok-front-in-16.ensures.front in
    (new.0 ∙ ap (λ f. f.board) c.self.view_is, new.1 ∙ ap (λ f. c.args.event.now ∷ f.seen) c.self.view_is)
