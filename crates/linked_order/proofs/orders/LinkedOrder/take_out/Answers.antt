use Rattle.std.proofs.Common.{◌+◌, arith, ap, length, subst, sym, true, ◌∙◌, ◌≡◌, ◌≤◌, List}
use Rattle.std.proofs.lemmas.List.{with_items_is}
use Rattle.std.specs.Vec.{with_items}
use Rattle.linked_order.proofs.Walks.{len_positive, linked_taken, listed_fits, newer_fits, older_fits, walked, walked_is}
use Rattle.linked_order.specs.declared.links.Link.{Link}
use Rattle.linked_order.specs.Links.{newer_at, older_at, renamed, taken_out}
use Rattle.linked_order.specs.Orders.{IsOnce, Order, is_listed, without_place}
use Rattle.linked_order.proofs.orders.LinkedOrder.take_out.Goals as goal

pub unlink-link-requires-clause-place : goal.unlink-link-requires-clause-place
unlink-link-requires-clause-place c =
    let there = subst (λ (o : Order). is_listed c.args.place o.listed ≡ true) (sym c.self.view_is) c.requires.listed in
    omega (arith, listed_fits _ _ _ _ c.args.place _ c.self.invariant there, ap length c.deref_mut.ensures.value)

pub unlink-link-requires-clause-older : goal.unlink-link-requires-clause-older
unlink-link-requires-clause-older c =
    let there = subst (λ (o : Order). is_listed c.args.place o.listed ≡ true) (sym c.self.view_is) c.requires.listed in
    subst (λ (l : List Link). older_at l c.args.place ≤ length l) (sym c.deref_mut.ensures.value) (older_fits _ _ _ _ c.args.place _ c.self.invariant there)

pub unlink-link-requires-clause-newer : goal.unlink-link-requires-clause-newer
unlink-link-requires-clause-newer c =
    let there = subst (λ (o : Order). is_listed c.args.place o.listed ≡ true) (sym c.self.view_is) c.requires.listed in
    subst (λ (l : List Link). newer_at l c.args.place ≤ length l) (sym c.deref_mut.ensures.value) (newer_fits _ _ _ _ c.args.place _ c.self.invariant there)

pub overflow_add-place : goal.overflow_add-place
overflow_add-place c =
    let there = subst (λ (o : Order). is_listed c.args.place o.listed ≡ true) (sym c.self.view_is) c.requires.listed in
    omega (arith, listed_fits _ _ _ _ c.args.place _ c.self.invariant there, c.self.invariant.few)

pub overflow_add-place-2 : goal.overflow_add-place-2
overflow_add-place-2 c =
    let there = subst (λ (o : Order). is_listed c.args.place o.listed ≡ true) (sym c.self.view_is) c.requires.listed in
    omega (arith, listed_fits _ _ _ _ c.args.place _ c.self.invariant there, c.self.invariant.few)

pub overflow_sub-self : goal.overflow_sub-self
overflow_sub-self c =
    let there = subst (λ (o : Order). is_listed c.args.place o.listed ≡ true) (sym c.self.view_is) c.requires.listed in
    omega (arith, len_positive _ _ _ _ c.args.place _ c.self.invariant there)

pub invariant_of-self : goal.invariant_of-self
invariant_of-self c =
    let there = subst (λ (o : Order). is_listed c.args.place o.listed ≡ true) (sym c.self.view_is) c.requires.listed in
    let same : length c.unlink-link.new.links ≡ c.self.inside.links.len = omega (arith, c.unlink-link.auto.links, ap length c.deref_mut.ensures.value, c.self.inside.links.ok.0) in
    let later : (with_items c.self.inside.links c.unlink-link.new.links).items ≡ taken_out c.args.place c.self.inside.links.items =
    with_items_is c.self.inside.links c.unlink-link.new.links same ∙ c.unlink-link.ensures.taken_out ∙ ap (taken_out c.args.place) c.deref_mut.ensures.value in
    walked_is _ _ _ _ _
    (linked_taken _ _ _ _ _ _ _ c.args.place _ c.self.invariant there later
    (c.replaced-self-inside.ensures ∙ ap (renamed c.self.inside.oldest (c.args.place + 1)) (c.unlink-link.ensures.newer ∙ ap (λ (l : List Link). newer_at l c.args.place) c.deref_mut.ensures.value))
    (c.replaced-self-inside-2.ensures ∙ ap (renamed c.self.inside.newest (c.args.place + 1)) (c.unlink-link.ensures.older ∙ ap (λ (l : List Link). older_at l c.args.place) c.deref_mut.ensures.value)))

pub returns : goal.returns
returns c =
    let there = subst (λ (o : Order). is_listed c.args.place o.listed ≡ true) (sym c.self.view_is) c.requires.listed in
    let same : length c.unlink-link.new.links ≡ c.self.inside.links.len = omega (arith, c.unlink-link.auto.links, ap length c.deref_mut.ensures.value, c.self.inside.links.ok.0) in
    let filled = with_items_is c.self.inside.links c.unlink-link.new.links same in
    let later : (with_items c.self.inside.links c.unlink-link.new.links).items ≡ taken_out c.args.place c.self.inside.links.items =
    filled ∙ c.unlink-link.ensures.taken_out ∙ ap (taken_out c.args.place) c.deref_mut.ensures.value in
    let order =
    walked _ _ _ _ _
    (linked_taken _ _ _ _ _ _ _ c.args.place _ c.self.invariant there later
    (c.replaced-self-inside.ensures ∙ ap (renamed c.self.inside.oldest (c.args.place + 1)) (c.unlink-link.ensures.newer ∙ ap (λ (l : List Link). newer_at l c.args.place) c.deref_mut.ensures.value))
    (c.replaced-self-inside-2.ensures ∙ ap (renamed c.self.inside.newest (c.args.place + 1)) (c.unlink-link.ensures.older ∙ ap (λ (l : List Link). older_at l c.args.place) c.deref_mut.ensures.value))) in
    let places : length (with_items c.self.inside.links c.unlink-link.new.links).items ≡ c.args.self.now.places =
    ap length filled ∙ c.unlink-link.auto.links ∙ ap length c.deref_mut.ensures.value ∙ ap (λ (o : Order). o.places) c.self.view_is in
    record {
      taken_out = λ i. record { places = places i; listed = (order ∙ ap (λ (o : Order). without_place c.args.place o.listed) c.self.view_is) i };
      once = subst (λ (o : Order). IsOnce o.listed) c.self.view_is c.self.invariant.once;
    }
