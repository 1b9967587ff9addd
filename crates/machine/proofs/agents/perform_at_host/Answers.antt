-- The host of the number performs the cause.
use Rattle.std.proofs.Common.{length, refl}
use Rattle.std.proofs.lemmas.Option.{slice_get_read}
use Rattle.machine.proofs.Places.{one_changes}
use Rattle.machine_agents.specs.Going.{HostPerforms}
use Rattle.machine.proofs.agents.perform_at_host.Goals as goal

pub returns-clause-performed : goal.returns-clause-performed
returns-clause-performed c =
    let there = slice_get_read c.args.hosts.now.items (length c.args.hosts.now.items) c.args.host c.index_mut.result.now refl c.requires c.index_mut.ensures.value in
    one_changes (λ x y. HostPerforms x y c.args.cause.now c.perform_one.new.made) c.args.hosts.now.items c.args.host c.index_mut.result.now c.perform_one.new.host c.requires there c.perform_one.ensures
