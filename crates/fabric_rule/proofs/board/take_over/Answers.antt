-- Each seat that is popped gives its agent.
use Rattle.std.proofs.Common.{◌≡◌, ◌∙◌, ◌∷◌, [], Some, ap, arith}
use Rattle.std.proofs.lemmas.List.Elements.{All-pop}
use Rattle.fabric_rule.specs.Values.{SeatValue, agent_and_seen}
use Rattle.fabric_rule.proofs.Closes.{takes_over}
use Rattle.fabric_rule.proofs.SeatLists.{taken_more}
use Rattle.fabric_rule.proofs.board.take_over.Goals as goal

pub join_seat-requires : goal.join_seat-requires
join_seat-requires c =
    let words = c.requires.words in
    let i = c.loop-next.invariant in
    let id = c.args.table.now.shared.table_id in
    let parts = All-pop (λ (s : SeatValue). s.board ≡ id) c.loop-next.others.items c.pop.new.self.items (Some c.in-Some.next) c.in-Some.ensures.items i.2 in
    (i.0, ap (λ v. v.board) c.next.view_is ∙ parts.1, c.next.invariant.0.slots, omega (arith, words), takes_over _ _ _ _ _ _ c.next.inside.seat.me.0 c.next.inside.seat.me.1 c.next.invariant.0)

pub loop-next-preserved : goal.loop-next-preserved
loop-next-preserved c =
    let i = c.loop-next.invariant in
    let s = c.join_seat.ensures in
    let id = c.args.table.now.shared.table_id in
    let parts = All-pop (λ (s : SeatValue). s.board ≡ id) c.loop-next.others.items c.pop.new.self.items (Some c.in-Some.next) c.in-Some.ensures.items i.2 in
    let own = c.next.invariant.0.own ∙ ap (λ v. agent_and_seen v ∷ []) c.next.view_is in
    let more = taken_more c.loop-next.others.items c.pop.new.self.items c.in-Some.next c.loop-next.seat.me.0.agents c.next.inside.seat.me.0.agents c.join_seat.new.seat.me.0.agents _ c.in-Some.ensures.items i.1 own (ap (λ m. m.0.agents) s.2) in
    (s.0 ∙ i.0, more, parts.0)
