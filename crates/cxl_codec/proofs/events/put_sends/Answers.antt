-- The messages stand behind what was there, in order.
use Rattle.std.proofs.Common.{◌≡◌, ◌++◌, sym, subst}
use Rattle.event_room.specs.Parts.{out_of, sends_of}
use Rattle.cxl_codec.specs.Cells.{bytes_of}
use Rattle.cxl_codec.specs.Events.{sends_cells}
use Rattle.cxl_codec.proofs.Puts.{one_put, two_put}
use Rattle.cxl_codec.proofs.events.put_sends.Goals as goal

pub returns-in-One-clause-items : goal.returns-in-One-clause-items
returns-in-One-clause-items c =
    subst (λ s. c.put_message.new.out.items ≡ c.args.out.now.items ++ bytes_of (sends_cells c.args.version (sends_of s))) (sym c.in-One.is)
    (one_put c.args.version _ _ _ (out_of c.in-One.first) c.put-in-One.ensures.items c.put_message.ensures.items)

pub returns-in-Two-clause-items : goal.returns-in-Two-clause-items
returns-in-Two-clause-items c =
    subst (λ s. c.put_message-in-Two-2.new.out.items ≡ c.args.out.now.items ++ bytes_of (sends_cells c.args.version (sends_of s))) (sym c.in-Two.is)
    (two_put c.args.version _ _ _ _ _ (out_of c.in-Two.first) (out_of c.in-Two.second) c.put-in-Two.ensures.items c.put_message-in-Two.ensures.items c.put-in-Two-2.ensures.items c.put_message-in-Two-2.ensures.items)
