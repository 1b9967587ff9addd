-- The device makes the event, and the machine goes on; or nothing changes.
use Rattle.std.proofs.Common.{ap, subst, sym, ◌∙◌}
use Rattle.cxl_message.specs.declared.events.Event.{Event}
use Rattle.link_queues.specs.Links.{HasRoomFor, after_cause, after_sends}
use Rattle.machine.proofs.Answered.{device_tells}
use Rattle.machine.proofs.Followed.{device_follows_room, followed_at_device, goes_on_at_device, sends_have_room, some_at_device, stays_at_device, takes_are_there}
use Rattle.machine.proofs.Seen.{keeps_as, seen_as}
use Rattle.machine.proofs.machine.Machine.follow_of_device.Goals as goal

pub move_made-requires-clause-takes : goal.move_made-requires-clause-takes
move_made-requires-clause-takes c =
    let e = c.args.event.now in
    let follows = device_follows_room _ c.follow.new.self e c.args.room.now c.follow.result c.requires.room c.follow.ensures.follows in
    takes_are_there _ e c.self.invariant (followed_at_device _ e c.follow.new.self c.follow.result (keeps_as _ _ e (sym c.self.view_is) c.requires.keeps) c.requires.device c.if-not-follow.false follows).next

pub move_made-requires-clause-room : goal.move_made-requires-clause-room
move_made-requires-clause-room c =
    let e = c.args.event.now in
    let follows = device_follows_room _ c.follow.new.self e c.args.room.now c.follow.result c.requires.room c.follow.ensures.follows in
    subst (λ (x : Event). HasRoomFor (after_cause e.cause c.self.inside.links) x.sends) (sym c.requires.room)
    (sends_have_room _ e c.self.invariant (followed_at_device _ e c.follow.new.self c.follow.result (keeps_as _ _ e (sym c.self.view_is) c.requires.keeps) c.requires.device c.if-not-follow.false follows).next)

pub invariant_of-self : goal.invariant_of-self
invariant_of-self c = stays_at_device _ c.follow.new.self c.follow.result c.self.invariant c.if-not-follow.true c.follow.ensures.refused

pub invariant_of-self-2 : goal.invariant_of-self-2
invariant_of-self-2 c =
    let e = c.args.event.now in
    let follows = device_follows_room _ c.follow.new.self e c.args.room.now c.follow.result c.requires.room c.follow.ensures.follows in
    let followed = followed_at_device _ e c.follow.new.self c.follow.result (keeps_as _ _ e (sym c.self.view_is) c.requires.keeps) c.requires.device c.if-not-follow.false follows in
    some_at_device _ e c.follow.new.self c.move_made.new.links c.self.invariant followed.next c.requires.device followed.goes
    (c.move_made.ensures ∙ ap (λ (x : Event). after_sends x.sends (after_cause e.cause c.self.inside.links)) c.requires.room)

pub returns-then-not-follow-clause-answered : goal.returns-then-not-follow-clause-answered
returns-then-not-follow-clause-answered c =
    let e = c.args.event.now in
    let follows = device_follows_room _ c.follow.new.self e c.args.room.now c.follow.result c.requires.room c.follow.ensures.follows in
    seen_as _ _ _ c.self.view_is (λ setup opening t stands. sym c.if-not-follow.true ∙ device_tells _ c.follow.new.self e c.follow.result c.requires.device follows setup opening t stands)

pub returns-clause-answered : goal.returns-clause-answered
returns-clause-answered c =
    let e = c.args.event.now in
    let follows = device_follows_room _ c.follow.new.self e c.args.room.now c.follow.result c.requires.room c.follow.ensures.follows in
    seen_as _ _ _ c.self.view_is (λ setup opening t stands. sym c.if-not-follow.false ∙ device_tells _ c.follow.new.self e c.follow.result c.requires.device follows setup opening t stands)

pub returns-clause-goes_on : goal.returns-clause-goes_on
returns-clause-goes_on c = λ so.
    let e = c.args.event.now in
    let follows = device_follows_room _ c.follow.new.self e c.args.room.now c.follow.result c.requires.room c.follow.ensures.follows in
    let followed = followed_at_device _ e c.follow.new.self c.follow.result (keeps_as _ _ e (sym c.self.view_is) c.requires.keeps) c.requires.device c.if-not-follow.false follows in
    seen_as _ _ _ c.self.view_is
    (goes_on_at_device _ e c.follow.new.self c.move_made.new.links followed.next c.requires.device followed.goes
    (c.move_made.ensures ∙ ap (λ (x : Event). after_sends x.sends (after_cause e.cause c.self.inside.links)) c.requires.room))
