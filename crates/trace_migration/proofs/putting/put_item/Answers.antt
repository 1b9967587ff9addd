-- An event is put as it stands in the room.
use Rattle.std.proofs.Common.{subst, sym}
use Rattle.std.specs.Prelude.{OnErr, OnOk}
use Rattle.trace_stream.specs.Items.{item_of}
use Rattle.trace_stream.specs.Writing.{BreaksOff, GoesOn}
use Rattle.trace_stream.specs.declared.items.Found.{Found}
use Rattle.trace_migration.specs.Items.{event_part}
use Rattle.trace_migration.proofs.putting.put_item.Goals as goal

pub returns-in-Event-clause-goes_on : goal.returns-in-Event-clause-goes_on
returns-in-Event-clause-goes_on g c =
    subst (λ (f : Found). OnOk c.put_room.result (GoesOn c.args.writer.now c.put_room.new.self (event_part (item_of c.args.room.now f)))) (sym c.in-Event.is) c.put_room.ensures.goes_on

pub returns-in-Event-clause-front : goal.returns-in-Event-clause-front
returns-in-Event-clause-front g c =
    subst (λ (f : Found). OnErr c.put_room.result (BreaksOff c.args.writer.now c.put_room.new.self (event_part (item_of c.args.room.now f)))) (sym c.in-Event.is) c.put_room.ensures.front
