use Rattle.std.proofs.Common.{None, Some, ap, sym}
use Rattle.coherence_model.specs.Copies.{Copy}
use Rattle.host_cache.proofs.Kept.{copy_of}
use Rattle.host_cache.proofs.caches.HostCache.copy.Goals as goal

pub returns-in-Some : goal.returns-in-Some
returns-in-Some c =
    record { value = sym (ap (λ (k : Copy). k.state) (copy_of _ _ c.self.inside.pool c.self.inside.order _ _ (Some c.in-Some.held) c.self.invariant c.self.view_is c.deref.ensures.value c.in-Some.ensures)) }

pub returns-in-None : goal.returns-in-None
returns-in-None c =
    record { value = sym (ap (λ (k : Copy). k.state) (copy_of _ _ c.self.inside.pool c.self.inside.order _ _ None c.self.invariant c.self.view_is c.deref.ensures.value c.in-None.ensures)) }
