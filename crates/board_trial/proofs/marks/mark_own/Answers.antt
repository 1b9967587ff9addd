-- The agent stands for the seat's own events with the operation's, and a host's own half looks at no others.
use Rattle.std.proofs.Common.{ap, refl, sym, ◌∙◌, ◌∷◌}
use Rattle.cxl_message.specs.declared.events.Event.{Event}
use Rattle.coherence_model.specs.Traces.{events_of}
use Rattle.fabric_rule.specs.Values.{mine}
use Rattle.board_trial.proofs.Shown.{event_is_made, event_stands, own_shown_allowed, shows_on}
use Rattle.board_trial.proofs.marks.mark_own.Goals as goal

pub mark-requires-clause-allowed : goal.mark-requires-clause-allowed
mark-requires-clause-allowed c =
    let b = c.args.board.now in
    let s = c.args.seat.now in
    let past = events_of s.agent s.seen in
    own_shown_allowed b s c.step.new.self _ c.agent.ensures c.requires.operation
    (event_stands c.step.new.self b.setup s.agent past _ c.args.cause.now _ c.agent.ensures refl c.made.view_is
    (c.in_ok-made.ensures.goes_on b.setup s.agent past c.requires.shows))

pub returns-clause-shows : goal.returns-clause-shows
returns-clause-shows c =
    let b = c.args.board.now in
    let s = c.args.seat.now in
    let past = events_of s.agent s.seen in
    shows_on b c.step.new.self s c.mark.new.self _ c.agent.ensures c.mark.ensures.agent c.mark.ensures.ends
    (event_stands c.step.new.self b.setup s.agent past _ c.args.cause.now _ c.agent.ensures refl c.made.view_is
    (c.in_ok-made.ensures.goes_on b.setup s.agent past c.requires.shows))

pub returns-clause-own : goal.returns-clause-own
returns-clause-own c =
    let b = c.args.board.now in
    let s = c.args.seat.now in
    let past = events_of s.agent s.seen in
    let is = event_is_made _ s.agent c.args.cause.now _ c.agent.ensures refl c.made.view_is in
    record {
      emitted = _;
      answer = sym (c.in_ok-made.ensures.answer b.setup s.agent past c.requires.shows);
      own = c.mark.ensures.own ∙ ap (λ (e : Event). (c.mark.result, e) ∷ mine s) is;
    }
