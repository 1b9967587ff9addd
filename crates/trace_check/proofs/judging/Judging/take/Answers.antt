-- A header comes first.
use Rattle.std.proofs.Common.{List, subst, sym, ◌++◌, ◌∷◌, []}
use Rattle.cxl_message.specs.declared.identifiers.Bytes64.{Bytes64}
use Rattle.cxl_message.specs.declared.identifiers.Line.{Line}
use Rattle.trace_stream.specs.Items.{item_of}
use Rattle.trace_stream.specs.declared.items.Found.{Found}
use Rattle.trace_check.specs.Judged.{GoesOnBy, IsOpened}
use Rattle.trace_check.proofs.Steps.{header_judged, header_unsettled}
use Rattle.trace_check.proofs.judging.Judging.take.Goals as goal

pub returns-in-Header-clause-judged : goal.returns-in-Header-clause-judged
returns-in-Header-clause-judged c items =
    let room = c.args.room.now in
    let old = c.args.self.now in
    subst (λ (found : Found). GoesOnBy items (item_of room found) old → IsOpened (items ++ item_of room found ∷ []) room.setup c.new.result) (sym c.in-Header.is)
    (λ on.
    subst (λ (opening : List (Line × Bytes64)). IsOpened (items ++ item_of room Found.Header ∷ []) room.setup opening) (sym c.new.ensures) (header_judged items room.version room.setup old on))

pub returns-in-Header-clause-stays : goal.returns-in-Header-clause-stays
returns-in-Header-clause-stays c settled =
    let room = c.args.room.now in
    let on = subst (λ (found : Found). GoesOnBy c.requires.0 (item_of room found) c.args.self.now) c.in-Header.is c.requires.1 in
    header_unsettled c.requires.0 room.version room.setup c.args.self.now on settled
