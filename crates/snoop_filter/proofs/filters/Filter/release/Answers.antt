-- One entry fewer is reserved.
use Rattle.snoop_filter.proofs.Seen.{released_kept}
use Rattle.snoop_filter.proofs.filters.Filter.release.Goals as goal

pub invariant_of-self : goal.invariant_of-self
invariant_of-self c = released_kept c.self.inside c.self.invariant
