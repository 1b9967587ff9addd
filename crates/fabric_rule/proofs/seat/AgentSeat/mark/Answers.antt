-- One more of the seat's own.
use Rattle.fabric_rule.proofs.Values.{marked_mine}
use Rattle.fabric_rule.proofs.seat.AgentSeat.mark.Goals as goal

pub returns-clause-own : goal.returns-clause-own
returns-clause-own c =
    marked_mine c.args.self.now c.mark_about.new.self c.args.event.now c.mark_about.result c.requires.agent c.mark_about.ensures.agent c.mark_about.ensures.ends c.mark_about.ensures.number
