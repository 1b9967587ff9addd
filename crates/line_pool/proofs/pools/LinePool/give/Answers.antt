use Rattle.std.proofs.Common.{◌∙◌, Bool, List, arith, ap, sym, vec_len}
use Rattle.line_pool.proofs.Regions.{IsSound-given, marks-given, sum_by-spare_of-lt}
use Rattle.line_pool.proofs.Seen.{held, seen, seen-give}
use Rattle.line_pool.specs.Region.{marks}
use Rattle.line_pool.proofs.pools.LinePool.give.Goals as goal

pub put-requires : goal.put-requires
put-requires c =
    let sound = c.self.invariant in
    let used : List Bool = marks c.self.inside.free.items (vec_len c.self.inside.lines) in
    let at = held used _ _ _ _ c.slot.inside.0 c.self.view_is c.slot.view_is sound.sizes c.requires in
    let fewer = sum_by-spare_of-lt used c.slot.inside.0 at.mark_fits at.marked in
    omega (arith, fewer, sound.counted, sound.room, c.self.inside.free.ok.0)

pub invariant_of-self : goal.invariant_of-self
invariant_of-self c =
    let sound = c.self.invariant in
    let at = held _ _ _ _ _ c.slot.inside.0 c.self.view_is c.slot.view_is sound.sizes c.requires in
    IsSound-given _ _ _ _ _ _ _ _ (sym c.self.inside.lines.ok.0) c.put.ensures.items c.put.ensures.capacity at.mark_fits at.marked sound

pub returns : goal.returns
returns c =
    let sound = c.self.invariant in
    let at = held _ _ _ _ _ c.slot.inside.0 c.self.view_is c.slot.view_is sound.sizes c.requires in
    let used = marks-given _ _ _ _ _ _ _ (sym c.self.inside.lines.ok.0) c.put.ensures.items at.mark_fits at.marked sound in
    record {
      given = ap (λ us. seen us c.self.inside.lines.items (vec_len c.put.new.numbers)) used
          ∙ seen-give _ _ _ _ _ _ c.slot.inside.0 c.self.view_is c.slot.view_is sound.sizes c.put.ensures.len;
    }
