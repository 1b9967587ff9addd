-- The message with a tag is that of the buffered one.
use Rattle.std.proofs.Common.{◌≡◌, ◌∙◌, ℕ, List, [], Option, Some, None, ap, sym}
use Rattle.std.specs.Prelude.{find, slice_get, unwrap_or}
use Rattle.device_lines.specs.declared.buffers.Write.{Write}
use Rattle.device_lines.specs.Buffered.{has_write_tag}
use Rattle.device_lines.proofs.Regions.{host_fits, host_read, host_there, served_is}
use Rattle.device_lines.proofs.lines.DeviceLines.with_tag.Goals as goal

pub returns-in-Some : goal.returns-in-Some
returns-in-Some c =
    let there = host_read c.self.inside.buffers.items c.args.host c.index.result.now (host_fits c.self.inside.pool c.self.inside.lines.items c.self.inside.buffers.items c.self.inside.room c.args.self.now c.args.host c.self.view_is c.requires.host) c.index.ensures in
    record { served = ap (λ s. Some s) c.served.ensures ∙ served_is c.self.inside.pool c.self.inside.lines.items c.self.inside.buffers.items c.self.inside.room c.args.self.now c.args.host c.args.tag.0 c.index.result.now (Some c.in-Some.write) c.self.view_is there c.in-Some.ensures }

pub returns-in-None : goal.returns-in-None
returns-in-None c =
    let there = host_read c.self.inside.buffers.items c.args.host c.index.result.now (host_fits c.self.inside.pool c.self.inside.lines.items c.self.inside.buffers.items c.self.inside.room c.args.self.now c.args.host c.self.view_is c.requires.host) c.index.ensures in
    record { served = served_is c.self.inside.pool c.self.inside.lines.items c.self.inside.buffers.items c.self.inside.room c.args.self.now c.args.host c.args.tag.0 c.index.result.now None c.self.view_is there c.in-None.ensures }
