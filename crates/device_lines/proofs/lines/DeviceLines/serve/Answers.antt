-- What is served.
use Rattle.std.proofs.Common.{◌≡◌, ◌∙◌, List, Some, None, ap, sym, subst}
use Rattle.std.specs.Prelude.{slice_set}
use Rattle.device_lines.specs.declared.buffers.Write.{Write}
use Rattle.device_lines.specs.Buffered.{without_write}
use Rattle.device_lines.specs.Lines.{LinesRecord, served_record}
use Rattle.device_lines.specs.Region.{IsShared, lines_seen}
use Rattle.device_lines.proofs.Sums.{changed_is}
use Rattle.device_lines.proofs.Regions.{host_fits, host_read, line_named, named_in_use}
use Rattle.device_lines.proofs.Serving.{none_seen, old_low, serve_low, shared_same, target_seen, target_shared, untargeted_seen, untargeted_shared}
use Rattle.device_lines.proofs.lines.DeviceLines.serve.Goals as goal

pub replace_slot-old-requires : goal.replace_slot-old-requires
replace_slot-old-requires c =
    let there = host_read c.self.inside.buffers.items c.args.host c.index.result.now (host_fits c.self.inside.pool c.self.inside.lines.items c.self.inside.buffers.items c.self.inside.room c.args.self.now c.args.host c.self.view_is c.requires.host) c.index.ensures in
    serve_low c.self.inside.pool c.self.inside.lines.items c.self.inside.buffers.items c.self.inside.room c.args.self.now c.args.host c.args.tag.0 c.index.result.now c.in-Some.write c.in-Some-target.target c.self.view_is there (sym c.in-Some.ensures) (sym c.in-Some-target.ensures) c.requires.line

pub give-requires : goal.give-requires
give-requires c = named_in_use c.self.inside.pool c.self.inside.lines.items c.self.inside.buffers.items c.self.inside.room c.self.invariant c.replace_slot-old.result (line_named c.self.inside.lines.items c.self.inside.buffers.items c.in-Some-target.target.line.0 c.replace_slot-old.result c.replace_slot-old.ensures.named)

pub invariant_of-self : goal.invariant_of-self
invariant_of-self c =
    let there = host_read c.self.inside.buffers.items c.args.host c.index.result.now (host_fits c.self.inside.pool c.self.inside.lines.items c.self.inside.buffers.items c.self.inside.room c.args.self.now c.args.host c.self.view_is c.requires.host) c.index.ensures in
    let low = old_low c.self.inside.pool c.self.inside.lines.items c.self.inside.buffers.items c.self.inside.room c.in-Some-target.target.line.0 c.replace_slot-old.result c.self.invariant c.replace_slot-old.ensures.named in
    shared_same _ _ _ _ _ _ c.self.inside.room c.give.ensures.given c.replace_slot-old.ensures.lines (c.remove_at.ensures ∙ changed_is c.args.host (without_write c.args.tag.0) c.self.inside.buffers.items c.index.result.now there)
    (target_shared c.self.inside.pool c.self.inside.lines.items c.self.inside.buffers.items c.self.inside.room c.self.invariant c.replace_slot-old.result c.args.host c.args.tag.0 c.index.result.now c.in-Some.write c.in-Some-target.target (sym c.in-Some-target.ensures) c.replace_slot-old.ensures.named there (sym c.in-Some.ensures) low)

pub invariant_of-self-in-None-target : goal.invariant_of-self-in-None-target
invariant_of-self-in-None-target c =
    let there = host_read c.self.inside.buffers.items c.args.host c.index.result.now (host_fits c.self.inside.pool c.self.inside.lines.items c.self.inside.buffers.items c.self.inside.room c.args.self.now c.args.host c.self.view_is c.requires.host) c.index.ensures in
    subst (λ (b : List (List Write)). IsShared c.self.inside.pool c.self.inside.lines.items b c.self.inside.room) (sym (c.remove_at-in-None-target.ensures ∙ changed_is c.args.host (without_write c.args.tag.0) c.self.inside.buffers.items c.index.result.now there))
    (untargeted_shared c.self.inside.pool c.self.inside.lines.items c.self.inside.buffers.items c.self.inside.room c.self.invariant c.args.host c.args.tag.0 c.index.result.now c.in-Some.write (sym c.in-None-target.ensures) there (sym c.in-Some.ensures))

pub returns-in-Some-target : goal.returns-in-Some-target
returns-in-Some-target c =
    let there = host_read c.self.inside.buffers.items c.args.host c.index.result.now (host_fits c.self.inside.pool c.self.inside.lines.items c.self.inside.buffers.items c.self.inside.room c.args.self.now c.args.host c.self.view_is c.requires.host) c.index.ensures in
    let low = old_low c.self.inside.pool c.self.inside.lines.items c.self.inside.buffers.items c.self.inside.room c.in-Some-target.target.line.0 c.replace_slot-old.result c.self.invariant c.replace_slot-old.ensures.named in
    let removed = c.remove_at.ensures ∙ changed_is c.args.host (without_write c.args.tag.0) c.self.inside.buffers.items c.index.result.now there in
    record {
      served = (λ i. lines_seen (c.give.ensures.given i) (c.replace_slot-old.ensures.lines i) (removed i) c.self.inside.room)
          ∙ target_seen c.self.inside.pool c.self.inside.lines.items c.self.inside.buffers.items c.self.inside.room c.self.invariant c.replace_slot-old.result c.args.host c.args.tag.0 c.index.result.now c.in-Some.write c.in-Some-target.target (sym c.in-Some-target.ensures) c.replace_slot-old.ensures.named there (sym c.in-Some.ensures) low
          ∙ ap (λ (v : LinesRecord). served_record c.args.host c.args.tag.0 v) c.self.view_is;
    }

pub returns-in-None-target : goal.returns-in-None-target
returns-in-None-target c =
    let there = host_read c.self.inside.buffers.items c.args.host c.index.result.now (host_fits c.self.inside.pool c.self.inside.lines.items c.self.inside.buffers.items c.self.inside.room c.args.self.now c.args.host c.self.view_is c.requires.host) c.index.ensures in
    let removed = c.remove_at-in-None-target.ensures ∙ changed_is c.args.host (without_write c.args.tag.0) c.self.inside.buffers.items c.index.result.now there in
    record {
      served = (λ i. lines_seen c.self.inside.pool c.self.inside.lines.items (removed i) c.self.inside.room)
          ∙ untargeted_seen c.self.inside.pool c.self.inside.lines.items c.self.inside.buffers.items c.self.inside.room c.args.host c.args.tag.0 c.index.result.now c.in-Some.write (sym c.in-None-target.ensures) there (sym c.in-Some.ensures)
          ∙ ap (λ (v : LinesRecord). served_record c.args.host c.args.tag.0 v) c.self.view_is;
    }

pub returns-in-None : goal.returns-in-None
returns-in-None c =
    let there = host_read c.self.inside.buffers.items c.args.host c.index.result.now (host_fits c.self.inside.pool c.self.inside.lines.items c.self.inside.buffers.items c.self.inside.room c.args.self.now c.args.host c.self.view_is c.requires.host) c.index.ensures in
    record {
      served = subst (λ (v : LinesRecord). v ≡ served_record c.args.host c.args.tag.0 v) c.self.view_is (none_seen c.self.inside.pool c.self.inside.lines.items c.self.inside.buffers.items c.self.inside.room c.args.host c.args.tag.0 c.index.result.now there (sym c.in-None.ensures));
    }
