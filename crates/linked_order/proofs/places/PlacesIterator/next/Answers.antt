use Rattle.std.proofs.Common.{ap, length, rules, subst, sym, ◌∙◌, ◌∷◌, ◌≡◌}
use Rattle.linked_order.proofs.Walks.{at_next, left_next}
use Rattle.linked_order.specs.Orders.{IsAt, left_from}
use Rattle.linked_order.proofs.places.PlacesIterator.next.Goals as goal

pub invariant_of-self : goal.invariant_of-self
invariant_of-self c = subst (λ o. IsAt o c.self.inside.order.now.listed) (sym c.next-self-inside.ensures.value) (at_next c.in_ok-place.place c.self.inside.order.now.listed)

steps : (c : goal.After-self-1) → c.args.self.now ≡ c.in_ok-place.place ∷ left_from c.next-self-inside.result c.self.inside.order.now.listed
steps c =
    let order = c.self.inside.order.now.listed in
    let here = c.in_ok-place.was in
    sym c.self.view_is ∙ ap (λ o. left_from o order) here
    ∙ left_next c.in_ok-place.place order c.next-self-inside.ensures.once (subst (λ o. IsAt o order) here c.self.invariant)
    ∙ ap (λ o. c.in_ok-place.place ∷ left_from o order) (sym c.next-self-inside.ensures.value)

pub returns-clause-steps : goal.returns-clause-steps
returns-clause-steps c = steps c

pub returns-clause-goes : goal.returns-clause-goes
returns-clause-goes c = let fewer = ap length (steps c) in search rules
