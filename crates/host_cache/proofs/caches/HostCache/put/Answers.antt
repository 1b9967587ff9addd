use Rattle.std.proofs.Common.{◌≡◌, ◌∙◌, None, Some, ap, arith, refl, sym, ℕ}
use Rattle.std.specs.Prelude.{slice_set}
use Rattle.std.proofs.lemmas.Bool.{false≢true}
use Rattle.cxl_message.specs.declared.identifiers.Bytes64.{Bytes64}
use Rattle.line_pool.specs.Pools.{Pool}
use Rattle.host_record.specs.Ways.{put_way}
use Rattle.host_cache.specs.Caches.{Cache, bytes_in, copy_with}
use Rattle.host_cache.proofs.Kept.{bytes_written, cache_changed, has_of, held_in_use, held_of, kept_changed, line_other, line_same, lookup_within, slot_within, use_kept}
use Rattle.host_cache.proofs.caches.HostCache.put.Goals as goal

pub bytes_mut-requires : goal.bytes_mut-requires
bytes_mut-requires c = held_in_use _ _ c.self.inside.order c.args.line.0 c.in-Some.held c.self.invariant (held_of _ _ _ _ c.deref.ensures.value c.in-Some.ensures)

pub index_mut-requires : goal.index_mut-requires
index_mut-requires c = omega (arith, lookup_within c.self.inside.table.items c.args.line.0 c.in-Some.held (held_of _ _ _ _ c.deref.ensures.value c.in-Some.ensures), c.self.inside.table.ok.0)

pub invariant_of-self : goal.invariant_of-self
invariant_of-self c =
    let pool : Pool = c.self.inside.pool in
    let is = held_of c.self.inside.table.items _ c.args.line.0 c.in-Some.held c.deref.ensures.value c.in-Some.ensures in
    let low = slot_within pool c.in-Some.held.slot (held_in_use _ pool c.self.inside.order c.args.line.0 c.in-Some.held c.self.invariant is) in
    kept_changed _ pool _ c.self.inside.order c.args.line.0 c.in-Some.held c.args.state c.self.invariant is (λ slot uses. use_kept pool c.in-Some.held.slot slot pool.spare c.args.bytes.now.0 low uses)

pub returns-in-Some : goal.returns-in-Some
returns-in-Some c =
    let pool : Pool = c.self.inside.pool in
    let slot : ℕ = c.in-Some.held.slot in
    let later : Pool = record { slots = slice_set pool.slots slot (Some c.args.bytes.now.0); spare = pool.spare } in
    let is = held_of c.self.inside.table.items _ c.args.line.0 c.in-Some.held c.deref.ensures.value c.in-Some.ensures in
    let low = slot_within pool slot (held_in_use _ pool c.self.inside.order c.args.line.0 c.in-Some.held c.self.invariant is) in
    let bytes : bytes_in later slot ≡ c.args.bytes.now = bytes_written later slot c.args.bytes.now.0 (line_same pool slot pool.spare (Some c.args.bytes.now.0) low) in
    record {
      put = cache_changed c.self.inside.table.items pool later c.self.inside.order c.args.line.0 c.in-Some.held c.args.state c.self.invariant is (λ s other. line_other pool slot s pool.spare (Some c.args.bytes.now.0) other) refl
          ∙ ap (λ (k : Cache). record { ways = put_way c.args.line.0 (copy_with c.args.state (bytes_in later slot)) k.ways; room = k.room; lines = k.lines }) c.self.view_is
          ∙ ap (λ (b : Bytes64). record { ways = put_way c.args.line.0 (copy_with c.args.state b) c.args.self.now.ways; room = c.args.self.now.room; lines = c.args.self.now.lines }) bytes;
    }

pub returns-in_default : goal.returns-in_default
returns-in_default c =
    absurd (false≢true (sym (has_of _ _ c.self.inside.pool c.self.inside.order _ c.args.line.0 None c.self.invariant c.self.view_is c.deref.ensures.value c.in_default.ensures) ∙ c.requires))
