-- The seat has made the event, and so has the agent.
use Rattle.std.proofs.Common.{sym}
use Rattle.coherence_model.specs.Traces.{events_of}
use Rattle.board_trial.proofs.Stages.{shows_past}
use Rattle.board_trial.proofs.host.Host.play.Goals as goal

pub returns-clause-shows : goal.returns-clause-shows
returns-clause-shows c =
    let f = c.args.front in
    let h = c.args.self.now in
    let e = c.args.event.now in
    let new = c.in_ok-front in
    let made = c.in_ok-follow.ensures.goes_on f.board.setup h.seat.agent (events_of h.seat.agent h.seat.seen) c.requires.shows (sym c.requires.seat.agent) in
    shows_past f new.front h.seat c.advance.new.seat e c.follow.new.agent new.ensures.front.0 new.ensures.front.1 c.requires.seat new.ensures.seat made
