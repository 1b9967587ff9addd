-- The messages after the place that was found is taken out.
use Rattle.std.proofs.Common.{ap, sym, ◌∙◌}
use Rattle.std.specs.Prelude.{position}
use Rattle.device_lines.specs.Buffered.{has_write_tag}
use Rattle.device_lines.proofs.Removing.{no_write_taken_out, write_taken_out}
use Rattle.device_lines.proofs.buffers.remove_with.Goals as goal

pub returns-in-Some-clause-items : goal.returns-in-Some-clause-items
returns-in-Some-clause-items c =
    let found = ap (position (has_write_tag c.args.tag.0)) (sym c.deref.ensures.value) ∙ sym c.in-Some.ensures in
    c.remove-used.ensures.items ∙ write_taken_out c.args.tag.0 c.args.writes.now.items c.in-Some.place found

pub returns-in_default-clause-items : goal.returns-in_default-clause-items
returns-in_default-clause-items c =
    let found = ap (position (has_write_tag c.args.tag.0)) (sym c.deref.ensures.value) ∙ sym c.in_default.ensures in
    no_write_taken_out c.args.tag.0 c.args.writes.now.items found
