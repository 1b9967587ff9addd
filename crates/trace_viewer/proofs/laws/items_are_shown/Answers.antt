-- The text of a trace's items, part by part.
use Rattle.trace_viewer.proofs.Texts.{items_shown}
use Rattle.trace_viewer.proofs.laws.items_are_shown.Goals as goal

pub returns : goal.returns
returns c = items_shown
