-- The seat has made one more operation for each place, and the host's agent stands for them too.
use Rattle.std.proofs.Common.{length, take, ◌+◌, ◌≡◌, ◌≤◌}
use Rattle.fabric_rule.specs.Values.{mine}
use Rattle.board_trial.specs.Trial.{HasMade, ShowsOwn}
use Rattle.board_trial.proofs.stage.mark_hits.Given as goal

abbrev pub invariant-loop-place : goal.invariant-loop-place
invariant-loop-place g l =
    HasMade l.board l.fn.host.seat (take l.place l.numbers) l.seat × ShowsOwn l.board l.agent l.seat
    × (length (mine l.seat) + g.row.N ≤ l.board.room + l.place) × (l.index ≡ l.place + 1) × (length l.numbers ≡ g.row.N)
