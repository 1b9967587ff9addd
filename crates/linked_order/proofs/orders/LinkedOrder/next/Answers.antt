use Rattle.std.proofs.Common.{arith, subst, sym, true, ◌∙◌, ◌≡◌, ap}
use Rattle.linked_order.proofs.Walks.{listed_fits, newer_read, next_named}
use Rattle.linked_order.specs.declared.links.Link.{Link}
use Rattle.linked_order.specs.Links.{named}
use Rattle.linked_order.specs.Orders.{Order, after, is_listed}
use Rattle.linked_order.proofs.orders.LinkedOrder.next.Goals as goal

pub index-requires : goal.index-requires
index-requires c =
    let there = subst (λ (o : Order). is_listed c.args.place o.listed ≡ true) (sym c.self.view_is) c.requires.listed in
    omega (arith, listed_fits _ _ _ _ c.args.place _ c.self.invariant there, c.self.inside.links.ok.0)

pub returns-clause-value : goal.returns-clause-value
returns-clause-value c =
    let there = subst (λ (o : Order). is_listed c.args.place o.listed ≡ true) (sym c.self.view_is) c.requires.listed in
    let low = listed_fits _ _ _ _ c.args.place _ c.self.invariant there in
    c.place_named.ensures
    ∙ ap named (ap (λ (l : Link). l.newer) c.index.ensures ∙ newer_read c.self.inside.links.items c.args.place c.index.result.now low)
    ∙ next_named _ _ _ _ c.args.place _ c.self.invariant there
    ∙ ap (λ (o : Order). after c.args.place o.listed) c.self.view_is
