use Rattle.std.proofs.Common.{[], arith, ap, false, length, subst, sym, ◌++◌, ◌<◌, ◌∙◌, ◌∷◌, ◌≡◌}
use Rattle.std.proofs.lemmas.List.{with_items_is}
use Rattle.std.specs.Vec.{with_items}
use Rattle.linked_order.proofs.Walks.{len_fits, linked_added, newest_fits, walked, walked_is}
use Rattle.linked_order.specs.Links.{put_last}
use Rattle.linked_order.specs.Orders.{Order, is_listed}
use Rattle.linked_order.proofs.orders.LinkedOrder.add_last.Goals as goal

pub append-requires-clause-last : goal.append-requires-clause-last
append-requires-clause-last c = omega (arith, newest_fits _ _ _ _ _ c.self.invariant, ap length c.deref_mut.ensures.value)

pub overflow_add-self-2 : goal.overflow_add-self-2
overflow_add-self-2 c =
    let none = subst (λ (o : Order). is_listed c.args.place o.listed ≡ false) (sym c.self.view_is) c.requires.new in
    let low = subst (λ (o : Order). c.args.place < o.places) (sym c.self.view_is) c.requires.below in
    omega (arith, len_fits _ _ _ _ c.args.place _ c.self.invariant none low, c.self.invariant.few)

pub invariant_of-self : goal.invariant_of-self
invariant_of-self c =
    let none = subst (λ (o : Order). is_listed c.args.place o.listed ≡ false) (sym c.self.view_is) c.requires.new in
    let low = subst (λ (o : Order). c.args.place < o.places) (sym c.self.view_is) c.requires.below in
    let same : length c.append.new.links ≡ c.self.inside.links.len = omega (arith, c.append.auto.links, ap length c.deref_mut.ensures.value, c.self.inside.links.ok.0) in
    let later : (with_items c.self.inside.links c.append.new.links).items ≡ put_last c.args.place c.self.inside.newest c.self.inside.links.items =
    with_items_is c.self.inside.links c.append.new.links same ∙ c.append.ensures ∙ ap (put_last c.args.place c.self.inside.newest) c.deref_mut.ensures.value in
    walked_is _ _ _ _ _ (linked_added _ _ _ _ _ _ c.args.place _ c.self.invariant none low later c.replaced-self-inside.ensures)

pub returns : goal.returns
returns c =
    let none = subst (λ (o : Order). is_listed c.args.place o.listed ≡ false) (sym c.self.view_is) c.requires.new in
    let low = subst (λ (o : Order). c.args.place < o.places) (sym c.self.view_is) c.requires.below in
    let same : length c.append.new.links ≡ c.self.inside.links.len = omega (arith, c.append.auto.links, ap length c.deref_mut.ensures.value, c.self.inside.links.ok.0) in
    let filled = with_items_is c.self.inside.links c.append.new.links same in
    let later : (with_items c.self.inside.links c.append.new.links).items ≡ put_last c.args.place c.self.inside.newest c.self.inside.links.items =
    filled ∙ c.append.ensures ∙ ap (put_last c.args.place c.self.inside.newest) c.deref_mut.ensures.value in
    let order = walked _ _ _ _ _ (linked_added _ _ _ _ _ _ c.args.place _ c.self.invariant none low later c.replaced-self-inside.ensures) in
    let places : length (with_items c.self.inside.links c.append.new.links).items ≡ c.args.self.now.places =
    ap length filled ∙ c.append.auto.links ∙ ap length c.deref_mut.ensures.value ∙ ap (λ (o : Order). o.places) c.self.view_is in
    record { added = λ i. record { places = places i; listed = (order ∙ ap (λ (o : Order). o.listed ++ c.args.place ∷ []) c.self.view_is) i } }
