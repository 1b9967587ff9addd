-- The line of a buffered request exists.
use Rattle.std.proofs.Common.{ap, sym}
use Rattle.device_record.specs.Answers.{request_of}
use Rattle.device_rows.proofs.rows.clean_row.Goals as goal

pub clean_of-requires : goal.clean_of-requires
clean_of-requires c =
    let r = c.request-in-Some.inside in
    record { line = c.requires.lines c.in-Some.request (record { op = r.op; tag = r.tag; line = r.line.0 }) (sym c.in-Some.ensures) (ap request_of (sym c.request-in-Some.view_is)) }
