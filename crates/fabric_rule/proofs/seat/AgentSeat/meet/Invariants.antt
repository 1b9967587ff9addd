use Rattle.fabric_rule.specs.Steps.{no_event}
use Rattle.fabric_rule.proofs.seat.AgentSeat.meet.Given as goal

abbrev pub ghosts-meet_about : goal.ghosts-meet_about
ghosts-meet_about a = record { setup = a.board.now.setup; opening = a.board.now.opening; event = no_event }
