use Rattle.std.proofs.Common.{arith, rules}
use Rattle.host_cache.proofs.Dropped.{kept_opened}
use Rattle.host_cache.proofs.caches.HostCache.open.Goals as goal

pub invariant_of-result : goal.invariant_of-result
invariant_of-result c =
    kept_opened c.args.lines c.in_ok-table.table.items c.in_ok-pool.pool c.in_ok-order.order (c.in_ok-table.ensures.items_if_clones_equal (search rules)) (omega (arith, c.in_ok-table.ensures.len, c.in_ok-table.table.ok.0)) c.in_ok-order.ensures.opened
