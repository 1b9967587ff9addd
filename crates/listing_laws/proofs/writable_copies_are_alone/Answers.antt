-- By the numbers of each line, after every run.
use Rattle.listing_laws.proofs.Laws.{copies_alone}
use Rattle.listing_laws.proofs.writable_copies_are_alone.Goals as goal

pub returns : goal.returns
returns c = copies_alone
