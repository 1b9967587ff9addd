-- The machine goes on at a host.
use Rattle.std.proofs.Common.{sym}
use Rattle.machine.proofs.Performed.{goes_at_host, host_is_there, next_at_host, room_at_host, some_at_host, takes_at_step}
use Rattle.machine.proofs.Seen.{seen_as}
use Rattle.machine.proofs.machine.Machine.perform_of_host.Goals as goal

pub perform_at_host-requires : goal.perform_at_host-requires
perform_at_host-requires c = host_is_there _ c.args.k c.args.step.now c.self.invariant (seen_as _ _ _ (sym c.self.view_is) c.requires.step) c.requires.host

pub move_made-requires-clause-takes : goal.move_made-requires-clause-takes
move_made-requires-clause-takes c = takes_at_step _ c.args.k c.args.step.now c.self.invariant (seen_as _ _ _ (sym c.self.view_is) c.requires.step)

pub move_made-requires-clause-room : goal.move_made-requires-clause-room
move_made-requires-clause-room c =
    room_at_host _ c.args.k c.args.step.now c.perform_at_host.new.hosts.items c.perform_at_host.new.made c.self.invariant (seen_as _ _ _ (sym c.self.view_is) c.requires.step) c.requires.host
    (record { count = c.perform_at_host.ensures.count; others = c.perform_at_host.ensures.others; performed = c.perform_at_host.ensures.performed })

pub invariant_of-self : goal.invariant_of-self
invariant_of-self c =
    some_at_host _ c.args.k c.args.step.now c.perform_at_host.new.hosts.items c.move_made.new.links c.perform_at_host.new.made c.self.invariant (seen_as _ _ _ (sym c.self.view_is) c.requires.step) c.requires.host
    (record { count = c.perform_at_host.ensures.count; others = c.perform_at_host.ensures.others; performed = c.perform_at_host.ensures.performed }) c.move_made.ensures

pub returns-clause-next : goal.returns-clause-next
returns-clause-next c =
    seen_as _ _ _ c.self.view_is
    (next_at_host _ c.args.k c.args.step.now c.perform_at_host.new.hosts.items c.perform_at_host.new.made c.self.invariant (seen_as _ _ _ (sym c.self.view_is) c.requires.step) c.requires.host
    (record { count = c.perform_at_host.ensures.count; others = c.perform_at_host.ensures.others; performed = c.perform_at_host.ensures.performed }))

pub returns-clause-goes_on : goal.returns-clause-goes_on
returns-clause-goes_on c =
    seen_as _ _ _ c.self.view_is
    (goes_at_host _ c.args.k c.args.step.now c.perform_at_host.new.hosts.items c.move_made.new.links c.perform_at_host.new.made c.self.invariant (seen_as _ _ _ (sym c.self.view_is) c.requires.step) c.requires.host
    (record { count = c.perform_at_host.ensures.count; others = c.perform_at_host.ensures.others; performed = c.perform_at_host.ensures.performed }) c.move_made.ensures)
