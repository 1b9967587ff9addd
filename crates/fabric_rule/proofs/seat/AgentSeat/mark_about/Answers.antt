-- The event is allowed after the run, since only other agents' events came after what was seen.
use Rattle.std.proofs.Common.{◌∙◌, sym, ap, arith}
use Rattle.fabric_rule.proofs.Values.{marks_value}
use Rattle.fabric_rule.proofs.seat.AgentSeat.mark_about.Goals as goal

pub fetch_add-requires : goal.fetch_add-requires
fetch_add-requires g c =
    let words = c.board.invariant.0 in (
      ap (λ v. v.board) c.self.view_is ∙ c.requires.board ∙ sym (ap (λ b. b.id) c.board.view_is),
      omega (arith, words),
      marks_value _ _ _ _ _ _ _ c.board.view_is _ _ _ c.self.view_is c.self.invariant.0 _ _ _ _ c.board.invariant.1 c.requires.subject.0 c.requires.subject.1 c.requires.subject.2 c.requires.agent c.requires.room c.requires.allowed,
    )
