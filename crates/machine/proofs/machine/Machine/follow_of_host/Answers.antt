-- The host makes the event, and the machine goes on; or nothing changes.
use Rattle.std.proofs.Common.{ap, subst, sym, ◌∙◌}
use Rattle.cxl_message.specs.declared.events.Event.{Event}
use Rattle.link_queues.specs.Links.{HasRoomFor, after_cause, after_sends}
use Rattle.machine.proofs.Followed.{followed_at_host, goes_on_at_host, host_is_there, hosts_follow, hosts_tell, sends_have_room, some_at_host, stays_at_host, takes_are_there}
use Rattle.machine.proofs.Seen.{keeps_as, seen_as}
use Rattle.machine.proofs.machine.Machine.follow_of_host.Goals as goal

pub follow_at_host-requires : goal.follow_at_host-requires
follow_at_host-requires c = host_is_there _ c.args.event.now c.self.invariant (keeps_as _ _ c.args.event.now (sym c.self.view_is) c.requires.keeps) c.requires.host

pub move_made-requires-clause-takes : goal.move_made-requires-clause-takes
move_made-requires-clause-takes c =
    let e = c.args.event.now in
    let keeps = keeps_as _ _ e (sym c.self.view_is) c.requires.keeps in
    let follow = hosts_follow _ c.follow_at_host.new.hosts.items e c.args.room.now c.follow_at_host.result c.requires.room c.follow_at_host.ensures.count c.follow_at_host.ensures.others c.follow_at_host.ensures.followed in
    takes_are_there _ e c.self.invariant (followed_at_host _ e c.follow_at_host.new.hosts.items c.follow_at_host.result c.self.invariant keeps c.requires.host c.if-not-follow_at_host.false follow).next

pub move_made-requires-clause-room : goal.move_made-requires-clause-room
move_made-requires-clause-room c =
    let e = c.args.event.now in
    let keeps = keeps_as _ _ e (sym c.self.view_is) c.requires.keeps in
    let follow = hosts_follow _ c.follow_at_host.new.hosts.items e c.args.room.now c.follow_at_host.result c.requires.room c.follow_at_host.ensures.count c.follow_at_host.ensures.others c.follow_at_host.ensures.followed in
    subst (λ (x : Event). HasRoomFor (after_cause e.cause c.self.inside.links) x.sends) (sym c.requires.room)
    (sends_have_room _ e c.self.invariant (followed_at_host _ e c.follow_at_host.new.hosts.items c.follow_at_host.result c.self.invariant keeps c.requires.host c.if-not-follow_at_host.false follow).next)

pub invariant_of-self : goal.invariant_of-self
invariant_of-self c = stays_at_host _ c.follow_at_host.new.hosts.items c.follow_at_host.result c.self.invariant c.if-not-follow_at_host.true c.follow_at_host.ensures.refused

pub invariant_of-self-2 : goal.invariant_of-self-2
invariant_of-self-2 c =
    let e = c.args.event.now in
    let keeps = keeps_as _ _ e (sym c.self.view_is) c.requires.keeps in
    let follow = hosts_follow _ c.follow_at_host.new.hosts.items e c.args.room.now c.follow_at_host.result c.requires.room c.follow_at_host.ensures.count c.follow_at_host.ensures.others c.follow_at_host.ensures.followed in
    let followed = followed_at_host _ e c.follow_at_host.new.hosts.items c.follow_at_host.result c.self.invariant keeps c.requires.host c.if-not-follow_at_host.false follow in
    some_at_host _ e c.follow_at_host.new.hosts.items c.move_made.new.links c.self.invariant followed.next c.requires.host c.follow_at_host.ensures.count c.follow_at_host.ensures.others followed.goes
    (c.move_made.ensures ∙ ap (λ (x : Event). after_sends x.sends (after_cause e.cause c.self.inside.links)) c.requires.room)

pub returns-then-not-follow_at_host-clause-answered : goal.returns-then-not-follow_at_host-clause-answered
returns-then-not-follow_at_host-clause-answered c =
    let e = c.args.event.now in
    let keeps = keeps_as _ _ e (sym c.self.view_is) c.requires.keeps in
    let follow = hosts_follow _ c.follow_at_host.new.hosts.items e c.args.room.now c.follow_at_host.result c.requires.room c.follow_at_host.ensures.count c.follow_at_host.ensures.others c.follow_at_host.ensures.followed in
    seen_as _ _ _ c.self.view_is (λ setup opening t stands. sym c.if-not-follow_at_host.true ∙ hosts_tell _ e c.follow_at_host.new.hosts.items c.follow_at_host.result c.self.invariant keeps c.requires.host follow setup opening t stands)

pub returns-clause-answered : goal.returns-clause-answered
returns-clause-answered c =
    let e = c.args.event.now in
    let keeps = keeps_as _ _ e (sym c.self.view_is) c.requires.keeps in
    let follow = hosts_follow _ c.follow_at_host.new.hosts.items e c.args.room.now c.follow_at_host.result c.requires.room c.follow_at_host.ensures.count c.follow_at_host.ensures.others c.follow_at_host.ensures.followed in
    seen_as _ _ _ c.self.view_is (λ setup opening t stands. sym c.if-not-follow_at_host.false ∙ hosts_tell _ e c.follow_at_host.new.hosts.items c.follow_at_host.result c.self.invariant keeps c.requires.host follow setup opening t stands)

pub returns-clause-goes_on : goal.returns-clause-goes_on
returns-clause-goes_on c = λ so.
    let e = c.args.event.now in
    let keeps = keeps_as _ _ e (sym c.self.view_is) c.requires.keeps in
    let follow = hosts_follow _ c.follow_at_host.new.hosts.items e c.args.room.now c.follow_at_host.result c.requires.room c.follow_at_host.ensures.count c.follow_at_host.ensures.others c.follow_at_host.ensures.followed in
    let followed = followed_at_host _ e c.follow_at_host.new.hosts.items c.follow_at_host.result c.self.invariant keeps c.requires.host c.if-not-follow_at_host.false follow in
    seen_as _ _ _ c.self.view_is
    (goes_on_at_host _ e c.follow_at_host.new.hosts.items c.move_made.new.links followed.next c.requires.host c.follow_at_host.ensures.count c.follow_at_host.ensures.others followed.goes
    (c.move_made.ensures ∙ ap (λ (x : Event). after_sends x.sends (after_cause e.cause c.self.inside.links)) c.requires.room))
