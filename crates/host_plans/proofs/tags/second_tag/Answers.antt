use Rattle.std.proofs.Common.{sym, ◌∙◌}
use Rattle.host_plans.proofs.Spares.{first_below}
use Rattle.host_plans.proofs.tags.second_tag.Goals as goal

pub next_tag-requires : goal.next_tag-requires
next_tag-requires c = first_below c.args.opened.now c.args.conflicts.now c.in-Some.first c.args.tags (sym c.in-Some.is ∙ c.requires)
