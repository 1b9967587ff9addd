-- Whether a line's row is idle, by its place.
use Rattle.std.proofs.Common.{Some, None, ◌∙◌}
use Rattle.snoop_filter.proofs.Seen.{idle_seen}
use Rattle.snoop_filter.proofs.filters.Filter.is_idle.Goals as goal

pub returns-in-Some : goal.returns-in-Some
returns-in-Some c = c.is_free.ensures ∙ idle_seen c.self.inside c.args.self.now c.self.view_is c.self.invariant c.args.line (Some c.in-Some.place) c.in-Some.ensures

pub returns-in-None : goal.returns-in-None
returns-in-None c = idle_seen c.self.inside c.args.self.now c.self.view_is c.self.invariant c.args.line None c.in-None.ensures
