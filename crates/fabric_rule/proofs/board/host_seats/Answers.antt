-- The next host has no seat yet.
use Rattle.std.proofs.Common.{◌≡◌, ℕ, suc, ◌+◌, [], ◌∙◌, ap, arith}
use Rattle.fabric_rule.specs.Board.{device_view, with_next_host}
use Rattle.fabric_rule.proofs.SeatLists.{next_host_value, opens_value, seats_more}
use Rattle.fabric_rule.proofs.board.host_seats.Goals as goal

pub split_seat-requires : goal.split_seat-requires
split_seat-requires c =
    let words = c.requires.words in
    let i = c.loop-host.invariant in
    let few = c.requires.hosts in
    (i.0, omega (arith, words), opens_value _ _ _ _ c.loop-host.host _ (ap (λ m. m.0) i.1) (omega arith))

pub loop-host-preserved : goal.loop-host-preserved
loop-host-preserved c =
    let i = c.loop-host.invariant in
    let s = c.split_seat.ensures in
    let new = next_host_value c.split_seat.result.table_id c.args.table.now.shared.table_id c.split_seat.result.me c.loop-host.host c.loop-host.device.me.0 (s.3 ∙ i.0) s.4 (ap (λ m. m.0) i.1) in
    let next : suc c.loop-host.host ≡ c.loop-host.host + 1 = omega arith in
    (s.0 ∙ i.0, s.2 ∙ ap (λ m. (with_next_host m.0, m.1)) i.1 ∙ ap (λ (n : ℕ). (device_view n, [])) next, c.in_ok-push.ensures.items ∙ seats_more c.args.table.now.shared.table_id c.loop-host.host c.loop-host.seats.items _ i.2 new)
