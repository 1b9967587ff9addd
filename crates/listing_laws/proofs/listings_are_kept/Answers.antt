-- By the numbers of each line, after every run.
use Rattle.listing_laws.proofs.Laws.{listings_kept}
use Rattle.listing_laws.proofs.listings_are_kept.Goals as goal

pub returns : goal.returns
returns c = listings_kept
