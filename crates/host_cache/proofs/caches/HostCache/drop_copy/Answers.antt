use Rattle.std.proofs.Common.{◌+◌, ◌≡◌, ◌∙◌, None, ap, arith, length, refl, subst, sym, ℕ}
use Rattle.std.specs.Prelude.{slice_set}
use Rattle.std.proofs.lemmas.Bool.{false≢true}
use Rattle.cxl_message.specs.declared.states.CopyState.{CopyState}
use Rattle.coherence_model.specs.Copies.{no_copy}
use Rattle.line_pool.specs.Pools.{Pool, line_of}
use Rattle.linked_order.specs.Orders.{Order, without_place}
use Rattle.host_record.specs.Ways.{drop_way, put_way}
use Rattle.host_cache.specs.Caches.{Cache, IsKept, cache_of}
use Rattle.host_cache.proofs.Kept.{cache_changed, has_of, held_in_use, held_of, kept_changed, line_other, lookup_within}
use Rattle.host_cache.proofs.Dropped.{cache_dropped, give_up_drops, give_up_keeps, kept_dropped, listed_held, size_without}
use Rattle.host_cache.proofs.caches.HostCache.drop_copy.Goals as goal

pub index_mut-requires : goal.index_mut-requires
index_mut-requires c = omega (arith, lookup_within c.self.inside.table.items c.args.line.0 c.in-Some.held (held_of _ _ _ _ c.deref.ensures.value c.in-Some.ensures), c.self.inside.table.ok.0)

pub index_mut-requires-else-keep_way : goal.index_mut-requires-else-keep_way
index_mut-requires-else-keep_way c = omega (arith, lookup_within c.self.inside.table.items c.args.line.0 c.in-Some.held (held_of _ _ _ _ c.deref.ensures.value c.in-Some.ensures), c.self.inside.table.ok.0)

pub give-requires : goal.give-requires
give-requires c = held_in_use _ _ c.self.inside.order c.args.line.0 c.in-Some.held c.self.invariant (held_of _ _ _ _ c.deref.ensures.value c.in-Some.ensures)

pub take_out-requires : goal.take_out-requires
take_out-requires c =
    record { listed = listed_held c.self.inside.table.items c.self.inside.pool c.self.inside.order c.args.line.0 c.in-Some.held c.self.invariant (held_of _ _ _ _ c.deref.ensures.value c.in-Some.ensures) }

pub invariant_of-self : goal.invariant_of-self
invariant_of-self c =
    kept_changed _ c.self.inside.pool c.self.inside.pool c.self.inside.order c.args.line.0 c.in-Some.held CopyState.I c.self.invariant (held_of _ _ _ _ c.deref.ensures.value c.in-Some.ensures) (λ slot uses. uses)

pub invariant_of-self-else-keep_way : goal.invariant_of-self-else-keep_way
invariant_of-self-else-keep_way c =
    let pool : Pool = c.self.inside.pool in
    let slot : ℕ = c.in-Some.held.slot in
    let is = held_of c.self.inside.table.items _ c.args.line.0 c.in-Some.held c.deref.ensures.value c.in-Some.ensures in
    subst (λ (o : Order). IsKept (slice_set c.self.inside.table.items c.args.line.0 None) c.give.new.self o) (sym c.take_out.ensures.taken_out)
    (kept_dropped c.self.inside.table.items pool c.give.new.self c.self.inside.order c.args.line.0 c.in-Some.held c.self.invariant is
    (λ s other. ap (λ (p : Pool). line_of p s) c.give.ensures.given ∙ line_other pool slot s (pool.spare + 1) None other))

pub returns-then-keep_way : goal.returns-then-keep_way
returns-then-keep_way c =
    let is = held_of c.self.inside.table.items _ c.args.line.0 c.in-Some.held c.deref.ensures.value c.in-Some.ensures in
    record {
      dropped = cache_changed c.self.inside.table.items c.self.inside.pool c.self.inside.pool c.self.inside.order c.args.line.0 c.in-Some.held CopyState.I c.self.invariant is (λ s other. refl) refl
          ∙ ap (λ (k : Cache). record { ways = put_way c.args.line.0 no_copy k.ways; room = k.room; lines = k.lines }) c.self.view_is
          ∙ ap (λ l. record { ways = l; room = c.args.self.now.room; lines = c.args.self.now.lines }) (sym (give_up_keeps c.args.line.0 c.args.keep_way c.args.self.now c.if-keep_way.true));
    }

pub returns-else-keep_way : goal.returns-else-keep_way
returns-else-keep_way c =
    let table = c.self.inside.table.items in
    let pool : Pool = c.self.inside.pool in
    let order : Order = c.self.inside.order in
    let slot : ℕ = c.in-Some.held.slot in
    let is = held_of table _ c.args.line.0 c.in-Some.held c.deref.ensures.value c.in-Some.ensures in
    let room : length (without_place c.args.line.0 order.listed) + c.give.new.self.spare ≡ length order.listed + pool.spare =
    omega (arith, size_without c.args.line.0 order.listed c.take_out.ensures.once (listed_held table pool order c.args.line.0 c.in-Some.held c.self.invariant is), ap (λ (p : Pool). p.spare) c.give.ensures.given) in
    record {
      dropped = ap (cache_of (slice_set table c.args.line.0 None) c.give.new.self) c.take_out.ensures.taken_out
          ∙ cache_dropped table pool c.give.new.self order c.args.line.0 c.in-Some.held c.self.invariant is (λ s other. ap (λ (p : Pool). line_of p s) c.give.ensures.given ∙ line_other pool slot s (pool.spare + 1) None other) room
          ∙ ap (λ (k : Cache). record { ways = drop_way c.args.line.0 k.ways; room = k.room; lines = k.lines }) c.self.view_is
          ∙ ap (λ l. record { ways = l; room = c.args.self.now.room; lines = c.args.self.now.lines }) (sym (give_up_drops c.args.line.0 c.args.keep_way c.args.self.now c.if-keep_way.false));
    }

pub returns-in_default : goal.returns-in_default
returns-in_default c =
    absurd (false≢true (sym (has_of _ _ c.self.inside.pool c.self.inside.order _ c.args.line.0 None c.self.invariant c.self.view_is c.deref.ensures.value c.in_default.ensures) ∙ c.requires))
