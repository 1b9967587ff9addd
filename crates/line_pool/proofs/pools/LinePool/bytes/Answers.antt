use Rattle.std.proofs.Common.{[], Some, arith, ap, ◌∙◌, sym}
use Rattle.std.proofs.lemmas.List.{get_or_default}
use Rattle.line_pool.proofs.Seen.{held}
use Rattle.line_pool.proofs.pools.LinePool.bytes.Goals as goal

pub index-requires : goal.index-requires
index-requires c =
    let at = held _ _ _ _ _ c.slot.inside.0 c.self.view_is c.slot.view_is c.self.invariant.sizes c.requires in
    omega (arith, at.line_fits, c.self.inside.lines.ok.0)

pub returns : goal.returns
returns c =
    let at = held _ _ _ _ _ c.slot.inside.0 c.self.view_is c.slot.view_is c.self.invariant.sizes c.requires in
    record { value = at.line ∙ ap Some (sym (c.index.ensures ∙ get_or_default c.self.inside.lines.items _ _ [] at.line_fits)) }
