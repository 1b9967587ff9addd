-- Past a run the verdict is that on the rest, and a place with its rule stays where more is put behind.
use Rattle.verdict_laws.proofs.Growth.{broken_stays, one_more_is_told, verdict_goes_on}
use Rattle.verdict_laws.proofs.verdicts_grow.Goals as goal

pub returns-clause-goes_on : goal.returns-clause-goes_on
returns-clause-goes_on c = verdict_goes_on

pub returns-clause-stays : goal.returns-clause-stays
returns-clause-stays c = broken_stays

pub returns-clause-one_more : goal.returns-clause-one_more
returns-clause-one_more c = one_more_is_told
