-- One more line has its bytes.
use Rattle.flat_model.proofs.Lines.{lines_opened}
use Rattle.flat_model.proofs.flat.opened_lines.Goals as goal

pub loop-line-preserved : goal.loop-line-preserved
loop-line-preserved c = lines_opened c.loop-line.line c.args.opening.now _ _ c.bytes_at.result c.loop-line.invariant c.in_ok-push.ensures.items c.bytes_at.ensures
