-- What is read is what the grammar says.
use Rattle.std.proofs.Common.{arith, sym, ◌∙◌}
use Rattle.cxl_codec.specs.Events.{event_cells_in, EventFitsIn}
use Rattle.cxl_codec.specs.ReadingEvents.{event_at}
use Rattle.cxl_codec.proofs.Meanings.{bytes_from, found, refused, rest_shorter}
use Rattle.cxl_codec.proofs.EventReads.{event_meets}
use Rattle.cxl_codec.proofs.RoomReads.{event_parts_read}
use Rattle.cxl_codec.proofs.events.decode_room_in.Goals as goal

pub overflow_sub-result : goal.overflow_sub-result
overflow_sub-result c =
    rest_shorter (EventFitsIn c.args.version) (event_cells_in c.args.version) (event_at c.args.version) (event_meets c.args.version) c.args.bytes.now (bytes_from c.args.bytes.now (λ i. omega (arith, c.type_inv.bytes i))) _ _ (sym (event_parts_read c.args.version c.args.bytes.now) ∙ c.in-Ok.ensures)

pub refusal-requires : goal.refusal-requires
refusal-requires c =
    (refused (EventFitsIn c.args.version) (event_cells_in c.args.version) (event_at c.args.version) (event_meets c.args.version) c.args.bytes.now (bytes_from c.args.bytes.now (λ i. omega (arith, c.type_inv.bytes i))) c.in-Err.fault (sym (event_parts_read c.args.version c.args.bytes.now) ∙ c.in-Err.ensures)).1

pub returns-in-Ok-clause-found : goal.returns-in-Ok-clause-found
returns-in-Ok-clause-found c =
    found (EventFitsIn c.args.version) (event_cells_in c.args.version) (event_at c.args.version) (event_meets c.args.version) c.args.bytes.now (bytes_from c.args.bytes.now (λ i. omega (arith, c.type_inv.bytes i))) _ _ (sym (event_parts_read c.args.version c.args.bytes.now) ∙ c.in-Ok.ensures)

pub returns-in-Err-clause-refused : goal.returns-in-Err-clause-refused
returns-in-Err-clause-refused c =
    rw c.refusal.ensures (refused (EventFitsIn c.args.version) (event_cells_in c.args.version) (event_at c.args.version) (event_meets c.args.version) c.args.bytes.now (bytes_from c.args.bytes.now (λ i. omega (arith, c.type_inv.bytes i))) c.in-Err.fault (sym (event_parts_read c.args.version c.args.bytes.now) ∙ c.in-Err.ensures)).0
