use Rattle.std.proofs.Common.{subst}
use Rattle.linked_order.proofs.Walks.{places_fit}
use Rattle.linked_order.specs.Orders.{AreBelow, Order}
use Rattle.linked_order.proofs.orders.LinkedOrder.len.Goals as goal

pub returns-clause-below : goal.returns-clause-below
returns-clause-below c = subst (λ (o : Order). AreBelow o.places o.listed) c.self.view_is (places_fit _ _ _ _ _ c.self.invariant)
