-- The requests after the place that was found is taken out.
use Rattle.std.proofs.Common.{ap, sym, ◌∙◌}
use Rattle.std.specs.Prelude.{position}
use Rattle.cxl_message.specs.Messages.{has_tag}
use Rattle.device_tables.proofs.Places.{no_request_taken_out, request_taken_out}
use Rattle.device_tables.proofs.waiting.remove_with.Goals as goal

pub returns-in-Some-clause-items : goal.returns-in-Some-clause-items
returns-in-Some-clause-items c =
    let found = ap (position (λ r. has_tag c.args.tag.0 r.message)) (sym c.deref.ensures.value) ∙ sym c.in-Some.ensures in
    c.remove-used.ensures.items ∙ request_taken_out c.args.tag.0 c.args.waiting.now.items c.in-Some.place found

pub returns-in_default-clause-items : goal.returns-in_default-clause-items
returns-in_default-clause-items c =
    let found = ap (position (λ r. has_tag c.args.tag.0 r.message)) (sym c.deref.ensures.value) ∙ sym c.in_default.ensures in
    no_request_taken_out c.args.tag.0 c.args.waiting.now.items found
