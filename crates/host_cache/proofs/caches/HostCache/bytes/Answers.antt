use Rattle.std.proofs.Common.{None, Some, ap, sym, ◌∙◌}
use Rattle.coherence_model.specs.Copies.{Copy}
use Rattle.host_cache.proofs.Kept.{copy_of, held_in_use, held_of}
use Rattle.host_cache.proofs.caches.HostCache.bytes.Goals as goal

pub bytes_held-requires : goal.bytes_held-requires
bytes_held-requires c = held_in_use _ _ c.self.inside.order _ c.in-Some.held c.self.invariant (held_of _ _ _ _ c.deref.ensures.value c.in-Some.ensures)

pub returns-in-Some : goal.returns-in-Some
returns-in-Some c =
    record {
      value = c.bytes_held.ensures
          ∙ sym (ap (λ (k : Copy). k.bytes) (copy_of _ _ c.self.inside.pool c.self.inside.order _ c.args.line.0 (Some c.in-Some.held) c.self.invariant c.self.view_is c.deref.ensures.value c.in-Some.ensures));
    }

pub returns-in-None : goal.returns-in-None
returns-in-None c =
    record {
      value = c.zero.ensures
          ∙ sym (ap (λ (k : Copy). k.bytes) (copy_of _ _ c.self.inside.pool c.self.inside.order _ c.args.line.0 None c.self.invariant c.self.view_is c.deref.ensures.value c.in-None.ensures));
    }
