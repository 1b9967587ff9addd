-- The machine goes on at the device.
use Rattle.std.proofs.Common.{sym}
use Rattle.machine.proofs.Performed.{goes_at_device, next_at_device, room_at_device, some_at_device, takes_at_step}
use Rattle.machine.proofs.Seen.{seen_as}
use Rattle.machine.proofs.machine.Machine.perform_of_device.Goals as goal

pub move_made-requires-clause-takes : goal.move_made-requires-clause-takes
move_made-requires-clause-takes c = takes_at_step _ c.args.k c.args.step.now c.self.invariant (seen_as _ _ _ (sym c.self.view_is) c.requires.step)

pub move_made-requires-clause-room : goal.move_made-requires-clause-room
move_made-requires-clause-room c = room_at_device _ c.args.k c.args.step.now c.perform.new.self c.perform.new.made c.self.invariant (seen_as _ _ _ (sym c.self.view_is) c.requires.step) c.requires.device c.perform.ensures

pub invariant_of-self : goal.invariant_of-self
invariant_of-self c =
    some_at_device _ c.args.k c.args.step.now c.perform.new.self c.move_made.new.links c.perform.new.made c.self.invariant (seen_as _ _ _ (sym c.self.view_is) c.requires.step) c.requires.device c.perform.ensures
    c.move_made.ensures

pub returns-clause-next : goal.returns-clause-next
returns-clause-next c =
    seen_as _ _ _ c.self.view_is (next_at_device _ c.args.k c.args.step.now c.perform.new.self c.perform.new.made c.self.invariant (seen_as _ _ _ (sym c.self.view_is) c.requires.step) c.requires.device c.perform.ensures)

pub returns-clause-goes_on : goal.returns-clause-goes_on
returns-clause-goes_on c =
    seen_as _ _ _ c.self.view_is
    (goes_at_device _ c.args.k c.args.step.now c.perform.new.self c.move_made.new.links c.perform.new.made c.self.invariant (seen_as _ _ _ (sym c.self.view_is) c.requires.step) c.requires.device c.perform.ensures c.move_made.ensures)
