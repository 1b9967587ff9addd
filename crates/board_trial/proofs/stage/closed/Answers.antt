-- Both hosts gave their seats.
use Rattle.board_trial.proofs.stage.closed.Goals as goal

pub returns : goal.returns
returns g c = record { seat = c.in_ok-one.first; other = c.in_ok-two.second; first = c.in_ok-one.was; second = c.in_ok-two.was; run = c.in_ok-events.ensures }
