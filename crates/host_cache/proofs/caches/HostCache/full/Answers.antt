use Rattle.std.proofs.Common.{arith, length, subst, ◌≤◌}
use Rattle.host_cache.specs.Caches.{Cache, way_of}
use Rattle.host_cache.proofs.Kept.{length_shown}
use Rattle.host_cache.proofs.caches.HostCache.full.Goals as goal

pub returns-clause-most : goal.returns-clause-most
returns-clause-most c =
    subst (λ (k : Cache). length k.ways ≤ k.room) c.self.view_is (omega (arith, length_shown (way_of c.self.inside.table.items c.self.inside.pool) c.self.inside.order.listed))
