-- A message without a slot is the last of its host.
use Rattle.std.proofs.Common.{◌≡◌, ◌∙◌, ◌++◌, ◌∷◌, [], List, ap, sym, subst, refl}
use Rattle.std.specs.Prelude.{slice_get, unwrap_or}
use Rattle.cxl_message.specs.declared.messages.Message.{Message}
use Rattle.device_record.specs.Tables.{changed_at}
use Rattle.device_lines.specs.declared.buffers.Write.{Write}
use Rattle.device_lines.specs.Lines.{LinesRecord}
use Rattle.device_lines.specs.Region.{IsShared, lines_seen}
use Rattle.device_lines.proofs.Sums.{changed_is}
use Rattle.device_lines.proofs.Regions.{conflict_seen, conflict_shared, host_fits, host_room, host_there}
use Rattle.device_lines.proofs.lines.DeviceLines.take_conflict.Goals as goal

pub invariant_of-self : goal.invariant_of-self
invariant_of-self c =
    let there = (host_there c.self.inside.buffers.items c.args.host (host_fits c.self.inside.pool c.self.inside.lines.items c.self.inside.buffers.items c.self.inside.room c.args.self.now c.args.host c.self.view_is c.requires.host)) in
    let pushed = c.push_at.ensures ∙ changed_is c.args.host (λ (ws : List Write). ws ++ Write.Conflict c.args.tag ∷ []) c.self.inside.buffers.items (unwrap_or (slice_get c.self.inside.buffers.items c.args.host) []) there in
    subst (λ (b : List (List Write)). IsShared c.self.inside.pool c.self.inside.lines.items b c.self.inside.room) (sym pushed)
    (conflict_shared c.self.inside.pool c.self.inside.lines.items c.self.inside.buffers.items c.self.inside.room c.self.invariant c.args.host (unwrap_or (slice_get c.self.inside.buffers.items c.args.host) []) c.args.tag there (host_room c.self.inside.pool c.self.inside.lines.items c.self.inside.buffers.items c.self.inside.room c.args.self.now c.args.host (unwrap_or (slice_get c.self.inside.buffers.items c.args.host) []) c.self.view_is there c.requires.room))

pub returns : goal.returns
returns c =
    let there = (host_there c.self.inside.buffers.items c.args.host (host_fits c.self.inside.pool c.self.inside.lines.items c.self.inside.buffers.items c.self.inside.room c.args.self.now c.args.host c.self.view_is c.requires.host)) in
    let pushed = c.push_at.ensures ∙ changed_is c.args.host (λ (ws : List Write). ws ++ Write.Conflict c.args.tag ∷ []) c.self.inside.buffers.items (unwrap_or (slice_get c.self.inside.buffers.items c.args.host) []) there in
    record {
      taken = ap (λ (b : List (List Write)). lines_seen c.self.inside.pool c.self.inside.lines.items b c.self.inside.room) pushed
          ∙ conflict_seen c.self.inside.pool c.self.inside.lines.items c.self.inside.buffers.items c.self.inside.room c.args.host (unwrap_or (slice_get c.self.inside.buffers.items c.args.host) []) c.args.tag there
          ∙ ap (λ (w : LinesRecord). record w { writes = changed_at c.args.host (λ (ms : List Message). ms ++ Message.BiConflict c.args.tag ∷ []) w.writes }) c.self.view_is;
    }
