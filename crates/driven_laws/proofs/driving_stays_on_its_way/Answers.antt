-- One event more is one less of what is left.
use Rattle.driven_laws.proofs.OnTheWay.{way_begins, way_ends, way_goes_on}
use Rattle.driven_laws.proofs.driving_stays_on_its_way.Goals as goal

pub returns-clause-begins : goal.returns-clause-begins
returns-clause-begins c = way_begins

pub returns-clause-goes_on : goal.returns-clause-goes_on
returns-clause-goes_on c = way_goes_on

pub returns-clause-ends : goal.returns-clause-ends
returns-clause-ends c = way_ends
