-- By what the join and the load tell.
use Rattle.std.proofs.Common.{◌∙◌, sym, ap, arith}
use Rattle.fabric_rule.proofs.Meets.{meets}
use Rattle.fabric_rule.proofs.Values.{learns_value, learnt_mine}
use Rattle.fabric_rule.specs.Values.{mine}
use Rattle.fabric_rule.proofs.seat.AgentSeat.meet_about.Goals as goal

pub join_seat-requires : goal.join_seat-requires
join_seat-requires g c =
    let words = c.board.invariant.0 in (
      ap (λ v. v.board) c.self.view_is ∙ c.requires.board ∙ sym (ap (λ b. b.id) c.board.view_is),
      ap (λ v. v.board) c.note.view_is ∙ c.requires.note ∙ sym (ap (λ b. b.id) c.board.view_is),
      c.note.invariant,
      omega (arith, words),
      meets _ _ _ _ _ _ _,
    )

pub load-requires : goal.load-requires
load-requires g c =
    let words = c.board.invariant.0 in
    let j = c.join_seat.ensures in (
      j.0 ∙ ap (λ v. v.board) c.self.view_is ∙ c.requires.board ∙ sym (ap (λ b. b.id) c.board.view_is),
      omega (arith, words),
      learns_value _ _ _ _ _ c.self.inside.seat.me c.note.inside.seat.me.0 _ c.self.invariant.0 j.2 _ _ c.board.invariant.1 (c.requires.subject.0 ∙ sym (ap (λ b. b.setup) c.board.view_is)) (c.requires.subject.1 ∙ sym (ap (λ b. b.opening) c.board.view_is)),
    )

pub returns-clause-own : goal.returns-clause-own
returns-clause-own g c =
    learnt_mine g.J.Subject.setup g.J.Subject.opening c.self.inside.seat.me c.note.inside.seat.me.0 _ c.load.new.seat.me c.load.new.seat.table_id c.self.inside.seat.table_id c.self.invariant.0 c.join_seat.ensures.2 c.load.ensures.2
    ∙ ap mine c.self.view_is
