use Rattle.std.proofs.Common.{◌≡◌, ◌∙◌, ◌-◌, set, replicate, arith, ap, sym, vec_len}
use Rattle.line_pool.proofs.Regions.{IsSound-taken, marks-taken, top_is_spare, spare_within}
use Rattle.line_pool.proofs.Seen.{seen, seen-take, seen-spare}
use Rattle.line_pool.specs.Region.{marks}
use Rattle.line_pool.proofs.pools.LinePool.take.Goals as goal

pub index_mut-requires : goal.index_mut-requires
index_mut-requires c =
    let spare = top_is_spare _ _ _ _ _ _ c.in_ok-slot.ensures.items c.self.invariant in
    omega (
      arith,
      (spare_within (marks c.self.inside.free.items (vec_len c.self.inside.lines)) c.in_ok-slot.slot spare).0,
      c.self.invariant.sizes,
      c.self.inside.lines.ok.0,
    )

pub invariant_of-self-2 : goal.invariant_of-self-2
invariant_of-self-2 c =
    IsSound-taken _ _ _ _ _ _ _ _ _ (sym c.self.inside.lines.ok.0) c.in_ok-slot.ensures.items (omega (arith, c.in_ok-slot.ensures.capacity)) c.self.invariant

pub returns-clause-not_in_use : goal.returns-clause-not_in_use
returns-clause-not_in_use c =
    seen-spare _ _ _ _ _ c.self.view_is c.self.invariant.sizes (top_is_spare _ _ _ _ _ _ c.in_ok-slot.ensures.items c.self.invariant)

pub returns-clause-taken : goal.returns-clause-taken
returns-clause-taken c =
    let less : vec_len c.pop.new.self ≡ vec_len c.self.inside.free - 1 = omega (arith, c.in_ok-slot.ensures.len) in
    let used = marks-taken _ _ _ _ _ _ _ (sym c.self.inside.lines.ok.0) c.in_ok-slot.ensures.items c.self.invariant in
    ap (λ us. seen us (set c.self.inside.lines.items c.in_ok-slot.slot (replicate 64 0)) (vec_len c.pop.new.self)) used
    ∙ seen-take _ _ _ _ _ _ _ c.self.view_is c.self.invariant.sizes less
