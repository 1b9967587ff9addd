use Rattle.std.proofs.Common.{arith, ap, count_by, is_none, vec_len}
use Rattle.line_pool.proofs.Lines.{count_by-lines_in_use}
use Rattle.line_pool.proofs.Regions.{sum_by-spare_of-le}
use Rattle.line_pool.specs.Pools.{Pool}
use Rattle.line_pool.specs.Region.{marks}
use Rattle.line_pool.proofs.pools.LinePool.spare.Goals as goal

pub overflow_cast-result : goal.overflow_cast-result
overflow_cast-result c =
    let sound = c.self.invariant in
    omega (arith, c.len.ensures, c.self.inside.free.ok.0, sound.counted, sound.most, sum_by-spare_of-le (marks c.self.inside.free.items (vec_len c.self.inside.lines)))

pub returns-clause-counted : goal.returns-clause-counted
returns-clause-counted c =
    let sound = c.self.invariant in
    let seen = count_by-lines_in_use (marks c.self.inside.free.items (vec_len c.self.inside.lines)) c.self.inside.lines.items sound.sizes in
    let slots = ap (λ (p : Pool). count_by is_none p.slots) c.self.view_is in
    omega (arith, c.len.ensures, c.self.inside.free.ok.0, sound.counted, seen, slots)

pub returns-clause-within : goal.returns-clause-within
returns-clause-within c =
    let sound = c.self.invariant in
    omega (arith, c.len.ensures, c.self.inside.free.ok.0, sound.counted, sound.most, sum_by-spare_of-le (marks c.self.inside.free.items (vec_len c.self.inside.lines)))
