-- The answer to the message with a tag has its tag.
use Rattle.std.proofs.Common.{◌≡◌, ◌∙◌, Option, Some, None, ap}
use Rattle.std.specs.Prelude.{option_map}
use Rattle.cxl_message.specs.declared.opcodes.NdrOp.{NdrOp}
use Rattle.device_lines.specs.Lines.{ndr_with}
use Rattle.device_lines.proofs.Regions.{completion_is, host_fits, host_read}
use Rattle.device_lines.proofs.lines.DeviceLines.completion.Goals as goal

pub returns-in-Some : goal.returns-in-Some
returns-in-Some c =
    let there = host_read c.self.inside.buffers.items c.args.host c.index.result.now (host_fits c.self.inside.pool c.self.inside.lines.items c.self.inside.buffers.items c.self.inside.room c.args.self.now c.args.host c.self.view_is c.requires.host) c.index.ensures in
    record { completion = ap (λ (n : NdrOp). option_map (ndr_with c.args.tag) (Some n)) c.completion.ensures ∙ completion_is c.self.inside.pool c.self.inside.lines.items c.self.inside.buffers.items c.self.inside.room c.args.self.now c.args.host c.args.tag c.index.result.now (Some c.in-Some.write) c.self.view_is there c.in-Some.ensures }

pub returns-in-None : goal.returns-in-None
returns-in-None c =
    let there = host_read c.self.inside.buffers.items c.args.host c.index.result.now (host_fits c.self.inside.pool c.self.inside.lines.items c.self.inside.buffers.items c.self.inside.room c.args.self.now c.args.host c.self.view_is c.requires.host) c.index.ensures in
    record { completion = completion_is c.self.inside.pool c.self.inside.lines.items c.self.inside.buffers.items c.self.inside.room c.args.self.now c.args.host c.args.tag c.index.result.now None c.self.view_is there c.in-None.ensures }
