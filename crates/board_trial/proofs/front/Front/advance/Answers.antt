-- The seat has made no more events than there are, and there is room for one more. After the mark it has seen the whole run.
use Rattle.std.proofs.Common.{ap, arith, sym, [], ◌∙◌}
use Rattle.coherence_model.specs.Traces.{numbered_events_of}
use Rattle.board_trial.specs.Trial.{FrontValue}
use Rattle.board_trial.proofs.Stages.{mine_at_most}
use Rattle.board_trial.proofs.front.Front.advance.Goals as goal

pub mark_next-requires-clause-room : goal.mark_next-requires-clause-room
mark_next-requires-clause-room c =
    let most = mine_at_most c.args.self c.args.event.now.agent c.args.seat.now c.requires.seat in
    let room = c.in_ok-has_room.ensures in
    let same = ap (λ f. f.board.room) c.self.view_is in
    omega (arith, most, room, same)

pub returns-clause-seat : goal.returns-clause-seat
returns-clause-seat c =
    let seen = c.in_ok-note.ensures.seen ∙ sym c.in_ok-note.ensures.note.1 in
    record {
      board = c.mark_next.ensures.board ∙ c.requires.seat.board ∙ sym (ap (λ (f : FrontValue). f.board.id) c.self.view_is);
      agent = c.mark_next.ensures.agent ∙ c.requires.seat.agent;
      own = record { front = ([], sym seen); mine = ap (numbered_events_of c.args.event.now.agent) (sym seen) };
    }
