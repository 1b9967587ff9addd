-- Something pending has a next step, and at rest a stream's next operation may begin.
use Rattle.driven_laws.proofs.Ending.{driving_ends, has_choice, reached_is_short}
use Rattle.driven_laws.proofs.driving_ends.Goals as goal

pub returns-clause-choices : goal.returns-clause-choices
returns-clause-choices c = has_choice

pub returns-clause-short : goal.returns-clause-short
returns-clause-short c = reached_is_short

pub returns-clause-ends : goal.returns-clause-ends
returns-clause-ends c = driving_ends
