use Rattle.std.proofs.Common.{ap, subst, sym, ◌∙◌}
use Rattle.linked_order.proofs.Walks.{at_first, left_first}
use Rattle.linked_order.specs.Orders.{IsAt, left_from}
use Rattle.linked_order.proofs.places.Places.of.Goals as goal

pub invariant_of-result : goal.invariant_of-result
invariant_of-result c = subst (λ o. IsAt o c.args.order.now.listed) (sym c.first.ensures.value) (at_first c.args.order.now.listed)

pub returns : goal.returns
returns c = ap (λ o. left_from o c.args.order.now.listed) c.first.ensures.value ∙ left_first c.args.order.now.listed
