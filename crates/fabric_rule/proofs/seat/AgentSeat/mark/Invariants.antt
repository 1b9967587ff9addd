use Rattle.fabric_rule.proofs.seat.AgentSeat.mark.Given as goal

abbrev pub ghosts-mark_about : goal.ghosts-mark_about
ghosts-mark_about a = record { setup = a.board.now.setup; opening = a.board.now.opening; event = a.event.now }
