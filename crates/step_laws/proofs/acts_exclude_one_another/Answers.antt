-- Each clause is a fact.
use Rattle.step_laws.proofs.Facts.{blocks_come_first, lines_have_one_act, requests_have_one_act}
use Rattle.step_laws.proofs.acts_exclude_one_another.Goals as goal

pub returns-clause-lines : goal.returns-clause-lines
returns-clause-lines c = lines_have_one_act

pub returns-clause-blocks : goal.returns-clause-blocks
returns-clause-blocks c = blocks_come_first

pub returns-clause-requests : goal.returns-clause-requests
returns-clause-requests c = requests_have_one_act
