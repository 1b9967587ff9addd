-- A reader gives names in order, and spelled as names.
use Rattle.std.proofs.Common.{ap, ◌∙◌, Err}
use Rattle.cxl_message.specs.declared.names.NameRefusal.{NameRefusal}
use Rattle.trace_migration.proofs.Beginnings.{allowed_name}
use Rattle.trace_migration.proofs.heads.Head.name_stream.Goals as goal

pub unreachable-requires : goal.unreachable-requires
unreachable-requires c =
    allowed_name c.requires.0 c.args.stream c.args.name.now c.deref.result.now c.args.self.now NameRefusal.Order c.requires.1 c.deref.ensures.0
    (c.add.ensures.order (c.in-Err-Order.is ∙ ap Err c.in-Err-Order.field-0-is))

pub unreachable-requires-in-Err-Spelling : goal.unreachable-requires-in-Err-Spelling
unreachable-requires-in-Err-Spelling c =
    allowed_name c.requires.0 c.args.stream c.args.name.now c.deref.result.now c.args.self.now NameRefusal.Spelling c.requires.1 c.deref.ensures.0
    (c.add.ensures.spelling (c.in-Err-Spelling.is ∙ ap Err c.in-Err-Spelling.field-0-is))
