-- Each agent is a new one.
use Rattle.board_trial.proofs.stage.agents_of_both.Goals as goal

pub returns-clause-first : goal.returns-clause-first
returns-clause-first c = c.in_ok-first.ensures.stands

pub returns-clause-second : goal.returns-clause-second
returns-clause-second c = c.in_ok-second.ensures.stands
