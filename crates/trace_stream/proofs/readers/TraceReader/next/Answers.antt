-- One more item is read.
use Rattle.std.proofs.Common.{Ok, sym, subst}
use Rattle.trace_stream.specs.declared.items.Item.{Item}
use Rattle.trace_stream.specs.Runs.{HasRead, items_after}
use Rattle.trace_stream.proofs.readers.TraceReader.next.Goals as goal

pub returns-in-Ok-clause-goes_on : goal.returns-in-Ok-clause-goes_on
returns-in-Ok-clause-goes_on c bytes items has =
    subst (λ (item : Item). HasRead bytes (items_after items (Ok item)) c.next_into.new.self) (sym c.item_from.ensures) (c.in-Ok.ensures.goes_on bytes items has)
