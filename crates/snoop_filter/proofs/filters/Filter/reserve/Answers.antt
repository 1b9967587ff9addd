-- One entry more is reserved, which was free.
use Rattle.snoop_filter.proofs.Seen.{reserved_kept}
use Rattle.snoop_filter.proofs.filters.Filter.reserve.Goals as goal

pub invariant_of-self : goal.invariant_of-self
invariant_of-self c = reserved_kept c.self.inside c.args.self.now c.self.view_is c.self.invariant c.requires
