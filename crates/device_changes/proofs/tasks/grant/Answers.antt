-- A held line has a row.
use Rattle.std.proofs.Common.{inl}
use Rattle.device_changes.proofs.FilterLines.{held_has_row}
use Rattle.device_changes.proofs.tasks.grant.Goals as goal

pub set-requires-clause-row : goal.set-requires-clause-row
set-requires-clause-row c = inl (held_has_row c.args.filter.now.rows c.args.line.0 c.requires.held)

pub set-requires-in-Grant-clause-row : goal.set-requires-in-Grant-clause-row
set-requires-in-Grant-clause-row c = inl (held_has_row c.args.filter.now.rows c.args.line.0 c.requires.held)
