-- What is left, with the agents that were taken over, is all.
use Rattle.std.proofs.Common.{◌≡◌, ◌++◌, map}
use Rattle.std.specs.List.{All}
use Rattle.fabric_rule.specs.Values.{agent_and_seen}
use Rattle.fabric_rule.proofs.board.take_over.Given as goal

abbrev pub invariant-loop-next : goal.invariant-loop-next
invariant-loop-next l =
    (l.seat.table_id ≡ l.table.shared.table_id) × (map agent_and_seen l.others.items ++ l.seat.me.0.agents ≡ map agent_and_seen l.fn.others.items ++ l.fn.seat.me.0.agents) × All (λ s. s.board ≡ l.table.shared.table_id) l.others.items

abbrev pub decreases-loop-next : goal.decreases-loop-next
decreases-loop-next l = goal.left-loop-next l
