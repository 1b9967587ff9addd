use Rattle.std.proofs.Common.{[], Some, refl, arith, ap, ◌∙◌, sym}
use Rattle.std.proofs.lemmas.List.{get_or_default}
use Rattle.line_pool.proofs.Seen.{held, seen-write}
use Rattle.line_pool.proofs.pools.LinePool.bytes_mut.Goals as goal

pub index_mut-requires : goal.index_mut-requires
index_mut-requires c =
    let at = held _ _ _ _ _ c.slot.inside.0 c.self.view_is c.slot.view_is c.self.invariant.sizes c.requires in
    omega (arith, at.line_fits, c.self.inside.lines.ok.0)

pub returns : goal.returns
returns c =
    let at = held _ _ _ _ _ c.slot.inside.0 c.self.view_is c.slot.view_is c.self.invariant.sizes c.requires in (
      (refl, λ w. seen-write _ _ _ _ _ c.slot.inside.0 w c.self.view_is c.slot.view_is c.self.invariant.sizes at.in_use),
      record {
        written = tt;
        value = at.line ∙ ap Some (sym (c.index_mut.ensures.value ∙ get_or_default c.self.inside.lines.items _ _ [] at.line_fits));
      },
    )
