use Rattle.std.proofs.Common.{◌∙◌, sym, ap, arith}
use Rattle.fabric_rule.proofs.Meets.{notes}
use Rattle.fabric_rule.proofs.seat.AgentSeat.note.Goals as goal

pub split_seat-seat-requires : goal.split_seat-seat-requires
split_seat-seat-requires c =
    let words = c.board.invariant.0 in
    (ap (λ v. v.board) c.self.view_is ∙ c.requires ∙ sym (ap (λ b. b.id) c.board.view_is), omega (arith, words), notes _ _ _ _ _)
