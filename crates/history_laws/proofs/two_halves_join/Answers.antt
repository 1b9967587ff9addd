-- Each half is a part of the whole, renumbered.
use Rattle.history_laws.proofs.Halves.{even_goes_on, joined_begins, joined_is_legal, odd_goes_on}
use Rattle.history_laws.proofs.two_halves_join.Goals as goal

pub returns-clause-begins : goal.returns-clause-begins
returns-clause-begins c = joined_begins

pub returns-clause-even : goal.returns-clause-even
returns-clause-even c = even_goes_on

pub returns-clause-odd : goal.returns-clause-odd
returns-clause-odd c = odd_goes_on

pub returns-clause-legal : goal.returns-clause-legal
returns-clause-legal c = joined_is_legal
