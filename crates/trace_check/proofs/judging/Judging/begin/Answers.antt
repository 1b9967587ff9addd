-- A trace opens lines of its setup.
use Rattle.std.proofs.Common.{subst}
use Rattle.trace_stream.specs.declared.items.Item.{Item}
use Rattle.trace_check.specs.Judged.{GoesOnBy}
use Rattle.trace_check.proofs.Events.{opens_fitting}
use Rattle.trace_check.proofs.judging.Judging.begin.Goals as goal

pub open-requires : goal.open-requires
open-requires c =
    let items = c.requires.0 in
    let e = c.requires.1 in
    opens_fitting items e c.in-Opened.setup c.in-Opened.opening (subst (GoesOnBy items (Item.Event e)) c.in-Opened.is c.requires.2)
