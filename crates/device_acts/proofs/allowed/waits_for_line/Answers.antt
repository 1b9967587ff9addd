-- The line of a buffered request exists, and while it is held nothing is allowed for the request.
use Rattle.std.proofs.Common.{ap, sym, ◌∙◌}
use Rattle.device_record.specs.Answers.{request_of}
use Rattle.device_acts.proofs.Waits.{none_while_held}
use Rattle.device_acts.proofs.allowed.waits_for_line.Goals as goal

pub is_held-requires : goal.is_held-requires
is_held-requires c =
    let r = c.request-in-Some.inside in
    c.requires c.in-Some.request (record { op = r.op; tag = r.tag; line = r.line.0 }) (sym c.in-Some.ensures) (ap request_of (sym c.request-in-Some.view_is))

pub returns-in-Some : goal.returns-in-Some
returns-in-Some c held =
    let r = c.request-in-Some.inside in
    none_while_held c.args.tables.now.setup c.args.tables.now.kept c.args.host c.args.tag c.in-Some.request (record { op = r.op; tag = r.tag; line = r.line.0 }) (sym c.in-Some.ensures) (ap request_of (sym c.request-in-Some.view_is))
    (sym c.is_held.ensures ∙ held)
