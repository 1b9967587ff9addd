use Rattle.std.proofs.Common.{◌+◌, ◌++◌, ◌-◌, ◌<◌, ◌≡◌, ◌∙◌, ◌∷◌, [], IsSome, arith, ap, false, length, refl, replicate, Some, subst, sym, ℕ}
use Rattle.std.specs.Prelude.{slice_set}
use Rattle.coherence_model.specs.Copies.{no_copy}
use Rattle.linked_order.specs.Orders.{Order, is_listed}
use Rattle.line_pool.specs.Pools.{IsInUse, Pool, line_of}
use Rattle.host_record.specs.Ways.{has_way}
use Rattle.host_cache.specs.Caches.{Cache, IsKept, cache_of, way_of}
use Rattle.host_cache.proofs.Kept.{cache_added, has_listed, kept_added, length_shown, line_other, line_same, use_kept, with_way}
use Rattle.host_cache.proofs.caches.HostCache.add.Goals as goal

pub add_last-requires-clause-new : goal.add_last-requires-clause-new
add_last-requires-clause-new c =
    sym (has_listed c.self.inside.table.items c.self.inside.pool c.self.inside.order c.args.line.0) ∙ ap (λ (k : Cache). has_way c.args.line.0 k.ways) c.self.view_is ∙ c.requires.no_way

pub invariant_of-self : goal.invariant_of-self
invariant_of-self c =
    let pool : Pool = c.self.inside.pool in
    let slot : ℕ = c.in-Some.slot in
    let low : c.args.line.0 < length c.self.inside.table.items = omega (arith, c.self.invariant.sizes, ap (λ (k : Cache). k.lines) c.self.view_is, c.requires.below) in
    let taken : c.take.new.self ≡ record { slots = slice_set pool.slots slot (Some (replicate 64 0)); spare = pool.spare - 1 } = c.in-Some.ensures.taken in
    let free = c.in-Some.ensures.not_in_use in
    let same_uses : (s : ℕ) → IsInUse pool s → IsInUse c.take.new.self s = λ s uses. subst (λ (p : Pool). IsInUse p s) (sym taken) (use_kept pool slot s (pool.spare - 1) (replicate 64 0) free.0 uses) in
    let new : IsInUse c.take.new.self slot = subst (λ (p : Pool). IsInUse p slot) (sym taken) (subst (IsSome {T = _}) (sym (line_same pool slot (pool.spare - 1) (Some (replicate 64 0)) free.0)) refl) in
    subst (λ (o : Order). IsKept (with_way c.self.inside.table.items c.args.line.0 slot) c.take.new.self o) (sym c.add_last.ensures.added)
    (kept_added _ pool c.take.new.self c.self.inside.order c.args.line.0 slot c.self.invariant low free.1 same_uses new)

pub returns-in-Some : goal.returns-in-Some
returns-in-Some c =
    let table = c.self.inside.table.items in
    let pool : Pool = c.self.inside.pool in
    let order : Order = c.self.inside.order in
    let a : ℕ = c.args.line.0 in
    let slot : ℕ = c.in-Some.slot in
    let low : a < length table = omega (arith, c.self.invariant.sizes, ap (λ (k : Cache). k.lines) c.self.view_is, c.requires.below) in
    let taken : c.take.new.self ≡ record { slots = slice_set pool.slots slot (Some (replicate 64 0)); spare = pool.spare - 1 } = c.in-Some.ensures.taken in
    let none : is_listed a order.listed ≡ false = sym (has_listed table pool order a) ∙ ap (λ (k : Cache). has_way a k.ways) c.self.view_is ∙ c.requires.no_way in
    let others : (s : ℕ) → (s ≡ slot → ⊥) → line_of c.take.new.self s ≡ line_of pool s = λ s other. ap (λ (p : Pool). line_of p s) taken ∙ line_other pool slot s (pool.spare - 1) (Some (replicate 64 0)) other in
    let spare : c.take.new.self.spare + 1 ≡ pool.spare =
    omega (arith, ap (λ (p : Pool). p.spare) taken, ap (λ (k : Cache). k.room) c.self.view_is, ap (λ (k : Cache). length k.ways) c.self.view_is, length_shown (way_of table pool) order.listed, c.requires.room) in
    record {
      added = ap (cache_of (with_way table a slot) c.take.new.self) c.add_last.ensures.added
          ∙ cache_added table pool c.take.new.self order a slot c.self.invariant low none c.in-Some.ensures.not_in_use.1 others spare
          ∙ ap (λ (k : Cache). record { ways = k.ways ++ record { line = a; copy = no_copy } ∷ []; room = k.room; lines = k.lines }) c.self.view_is;
    }
