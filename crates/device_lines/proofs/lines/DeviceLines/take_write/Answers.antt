-- The bytes are in a slot that was spare, and the message is the last of its host.
use Rattle.std.proofs.Common.{◌≡◌, ◌∙◌, ◌++◌, ◌∷◌, [], List, Some, ◌-◌, ap, sym, subst, refl, arith}
use Rattle.std.specs.Prelude.{slice_get, slice_set, unwrap_or}
use Rattle.cxl_message.specs.declared.messages.Message.{Message}
use Rattle.device_record.specs.Tables.{changed_at}
use Rattle.line_pool.specs.Pools.{Pool}
use Rattle.device_lines.specs.declared.buffers.Write.{Write}
use Rattle.device_lines.specs.Lines.{LinesRecord}
use Rattle.device_lines.specs.Region.{IsShared, lines_seen}
use Rattle.device_lines.proofs.Sums.{changed_is}
use Rattle.device_lines.proofs.Regions.{host_fits, host_room, host_there, slot_left, write_seen, write_shared}
use Rattle.device_lines.proofs.lines.DeviceLines.take_write.Goals as goal

pub store-slot-requires : goal.store-slot-requires
store-slot-requires c =
    let there = (host_there c.self.inside.buffers.items c.args.host (host_fits c.self.inside.pool c.self.inside.lines.items c.self.inside.buffers.items c.self.inside.room c.args.self.now c.args.host c.self.view_is c.requires.host)) in
    slot_left c.self.inside.pool c.self.inside.lines.items c.self.inside.buffers.items c.self.inside.room c.args.host (unwrap_or (slice_get c.self.inside.buffers.items c.args.host) []) c.self.invariant there (host_room c.self.inside.pool c.self.inside.lines.items c.self.inside.buffers.items c.self.inside.room c.args.self.now c.args.host (unwrap_or (slice_get c.self.inside.buffers.items c.args.host) []) c.self.view_is there c.requires.room)

pub push_at-requires-clause-room : goal.push_at-requires-clause-room
push_at-requires-clause-room c =
    let there = (host_there c.self.inside.buffers.items c.args.host (host_fits c.self.inside.pool c.self.inside.lines.items c.self.inside.buffers.items c.self.inside.room c.args.self.now c.args.host c.self.view_is c.requires.host)) in
    omega (arith, host_room c.self.inside.pool c.self.inside.lines.items c.self.inside.buffers.items c.self.inside.room c.args.self.now c.args.host (unwrap_or (slice_get c.self.inside.buffers.items c.args.host) []) c.self.view_is there c.requires.room, c.self.invariant.most)

pub invariant_of-self : goal.invariant_of-self
invariant_of-self c =
    let there = (host_there c.self.inside.buffers.items c.args.host (host_fits c.self.inside.pool c.self.inside.lines.items c.self.inside.buffers.items c.self.inside.room c.args.self.now c.args.host c.self.view_is c.requires.host)) in
    let fewer = host_room c.self.inside.pool c.self.inside.lines.items c.self.inside.buffers.items c.self.inside.room c.args.self.now c.args.host (unwrap_or (slice_get c.self.inside.buffers.items c.args.host) []) c.self.view_is there c.requires.room in
    let pushed = c.push_at.ensures ∙ changed_is c.args.host (λ (ws : List Write). ws ++ (Write.Line c.args.meta c.args.snp c.args.tag c.args.line c.store-slot.result) ∷ []) c.self.inside.buffers.items (unwrap_or (slice_get c.self.inside.buffers.items c.args.host) []) there in
    let some = slot_left c.self.inside.pool c.self.inside.lines.items c.self.inside.buffers.items c.self.inside.room c.args.host (unwrap_or (slice_get c.self.inside.buffers.items c.args.host) []) c.self.invariant there fewer in
    subst (λ (b : List (List Write)). IsShared c.store-slot.new.pool c.self.inside.lines.items b c.self.inside.room) (sym pushed)
    (subst (λ (p : Pool). IsShared p c.self.inside.lines.items (slice_set c.self.inside.buffers.items c.args.host ((unwrap_or (slice_get c.self.inside.buffers.items c.args.host) []) ++ (Write.Line c.args.meta c.args.snp c.args.tag c.args.line c.store-slot.result) ∷ [])) c.self.inside.room) (sym c.store-slot.ensures.stored)
    (write_shared c.self.inside.pool c.self.inside.lines.items c.self.inside.buffers.items c.self.inside.room c.self.invariant c.args.host c.store-slot.result (unwrap_or (slice_get c.self.inside.buffers.items c.args.host) []) c.args.meta c.args.snp c.args.tag c.args.line c.args.bytes.now.0 there c.store-slot.ensures.not_in_use.0 c.store-slot.ensures.not_in_use.1 some fewer))

pub returns : goal.returns
returns c =
    let there = (host_there c.self.inside.buffers.items c.args.host (host_fits c.self.inside.pool c.self.inside.lines.items c.self.inside.buffers.items c.self.inside.room c.args.self.now c.args.host c.self.view_is c.requires.host)) in
    let fewer = host_room c.self.inside.pool c.self.inside.lines.items c.self.inside.buffers.items c.self.inside.room c.args.self.now c.args.host (unwrap_or (slice_get c.self.inside.buffers.items c.args.host) []) c.self.view_is there c.requires.room in
    let pushed = c.push_at.ensures ∙ changed_is c.args.host (λ (ws : List Write). ws ++ (Write.Line c.args.meta c.args.snp c.args.tag c.args.line c.store-slot.result) ∷ []) c.self.inside.buffers.items (unwrap_or (slice_get c.self.inside.buffers.items c.args.host) []) there in
    record {
      taken = (λ i. lines_seen (c.store-slot.ensures.stored i) c.self.inside.lines.items (pushed i) c.self.inside.room)
          ∙ write_seen c.self.inside.pool c.self.inside.lines.items c.self.inside.buffers.items c.self.inside.room c.self.invariant c.args.host c.store-slot.result (unwrap_or (slice_get c.self.inside.buffers.items c.args.host) []) c.args.meta c.args.snp c.args.tag c.args.line c.args.bytes.now there c.store-slot.ensures.not_in_use.0 c.store-slot.ensures.not_in_use.1
          ∙ ap (λ (w : LinesRecord). record w { writes = changed_at c.args.host (λ (ms : List Message). ms ++ Message.MemWr c.args.meta c.args.snp c.args.tag c.args.line c.args.bytes.now ∷ []) w.writes }) c.self.view_is;
    }
