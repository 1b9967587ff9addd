-- The line that is read is the flat memory's.
use Rattle.std.proofs.Common.{sym}
use Rattle.flat_model.proofs.Lines.{line_read}
use Rattle.flat_model.proofs.flat.Flat.line.Goals as goal

pub returns : goal.returns
returns c = line_read c.args.self.now c.self.inside.lines.items c.args.line.0 c.index.result.now (sym c.self.view_is) c.requires c.index.ensures
