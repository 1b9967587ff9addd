-- What the device's seat knows when the table is closed: the seats of the call are in another order.
use Rattle.std.proofs.Common.{ap, subst, sym, ◌++◌, ◌∙◌, ◌∷◌, ◌<◌, [], length, map}
use Rattle.std.specs.Prelude.{position, ◌==◌}
use Rattle.std.specs.List.Sorted.{IsPermutation}
use Rattle.std.proofs.lemmas.List.Sorted.{IsPermutation-swap_remove}
use Rattle.coherence_model.specs.Traces.{device}
use Rattle.fabric_rule.specs.Values.{SeatValue, agent_and_seen}
use Rattle.fabric_rule.proofs.Closes.{closes}
use Rattle.fabric_rule.proofs.SeatLists.{device_place, device_somewhere, one_run}
use Rattle.fabric_rule.proofs.board.Board.close.Goals as goal

pub unreachable-requires : goal.unreachable-requires
unreachable-requires c =
    let none = ap (position (λ (s : SeatValue). s.agent == device)) (sym c.deref.ensures.value) ∙ sym c.place_of_device.ensures ∙ c.in_default.is in
    device_somewhere c.args.self.setup c.args.seats.items c.requires.agents none

pub swap_remove-requires : goal.swap_remove-requires
swap_remove-requires c =
    let some = ap (position (λ (s : SeatValue). s.agent == device)) (sym c.deref.ensures.value) ∙ sym c.place_of_device.ensures ∙ c.in-Some.is in
    subst (λ n. c.in-Some.place < n) (sym (ap length c.deref.ensures.value) ∙ c.deref.ensures.len) (device_place c.args.self.setup c.args.seats.items c.in-Some.place c.requires.agents some)

pub returns : goal.returns
returns c =
    let seats = c.args.seats.items in
    let last = c.swap_remove.result in
    let some = ap (position (λ (s : SeatValue). s.agent == device)) (sym c.deref.ensures.value) ∙ sym c.place_of_device.ensures ∙ c.in-Some.is in
    let there = device_place c.args.self.setup seats c.in-Some.place c.requires.agents some in
    let moved = subst (λ xs. IsPermutation seats (last ∷ xs)) (sym c.swap_remove.ensures.items) (IsPermutation-swap_remove seats c.in-Some.place last there c.swap_remove.ensures.value) in
    let own = c.seat.invariant.0.own ∙ ap (λ v. agent_and_seen v ∷ []) c.seat.view_is in
    let agents = c.take_over.ensures.agents ∙ ap (λ ks. map agent_and_seen c.swap_remove.new.self.items ++ ks) own in
    let told = closes _ _ _ _ _ _ _ c.word-count.result c.close_with-closed.ensures.values.2 c.word-count.ensures in
    record { run = one_run _ _ _ _ _ c.self.view_is c.word-count.result _ seats c.swap_remove.new.self.items last moved agents told }
