-- A reader gives lines in order, and none of zeros.
use Rattle.std.proofs.Common.{ap, ◌∙◌, Err}
use Rattle.cxl_message.specs.declared.openings.OpeningRefusal.{OpeningRefusal}
use Rattle.trace_migration.proofs.Beginnings.{allowed_line}
use Rattle.trace_migration.proofs.heads.Head.open_line.Goals as goal

pub unreachable-requires : goal.unreachable-requires
unreachable-requires c =
    allowed_line c.requires.0 c.args.line c.args.bytes.now c.args.self.now OpeningRefusal.Order c.requires.1 (c.add.ensures.order (c.in-Err-Order.is ∙ ap Err c.in-Err-Order.field-0-is))

pub unreachable-requires-in-Err-Zero : goal.unreachable-requires-in-Err-Zero
unreachable-requires-in-Err-Zero c =
    allowed_line c.requires.0 c.args.line c.args.bytes.now c.args.self.now OpeningRefusal.Zero c.requires.1 (c.add.ensures.zero (c.in-Err-Zero.is ∙ ap Err c.in-Err-Zero.field-0-is))
