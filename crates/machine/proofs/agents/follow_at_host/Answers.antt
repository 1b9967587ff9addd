-- The host of the number makes the event, or nothing changes.
use Rattle.std.proofs.Common.{length, refl}
use Rattle.std.proofs.lemmas.Option.{slice_get_read}
use Rattle.machine.proofs.Places.{nothing_changes, one_changes}
use Rattle.machine_agents.specs.Going.{HostFollows}
use Rattle.machine.proofs.agents.follow_at_host.Goals as goal

pub returns-clause-followed : goal.returns-clause-followed
returns-clause-followed c =
    let there = slice_get_read c.args.hosts.now.items (length c.args.hosts.now.items) c.args.host c.index_mut.result.now refl c.requires c.index_mut.ensures.value in
    one_changes (λ x y. HostFollows x y c.args.cause.now c.args.event.now c.follow_one.result) c.args.hosts.now.items c.args.host c.index_mut.result.now c.follow_one.new.host c.requires there c.follow_one.ensures.followed

pub returns-clause-refused : goal.returns-clause-refused
returns-clause-refused c = λ no.
    let there = slice_get_read c.args.hosts.now.items (length c.args.hosts.now.items) c.args.host c.index_mut.result.now refl c.requires c.index_mut.ensures.value in
    nothing_changes c.args.hosts.now.items c.args.host c.index_mut.result.now c.follow_one.new.host there (c.follow_one.ensures.refused no)
