use Rattle.std.proofs.Common.{sym, ◌∙◌}
use Rattle.host_cache.proofs.Kept.{has_of}
use Rattle.host_cache.proofs.caches.HostCache.has_way.Goals as goal

pub returns : goal.returns
returns c =
    record { value = c.is_some.ensures ∙ sym (has_of _ _ c.self.inside.pool c.self.inside.order _ c.args.line.0 c.held_at.result c.self.invariant c.self.view_is c.deref.ensures.value c.held_at.ensures) }
