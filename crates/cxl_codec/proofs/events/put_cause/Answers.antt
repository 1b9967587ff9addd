-- The cause stands behind what was there.
use Rattle.std.proofs.Common.{◌≡◌, ◌++◌, sym, subst}
use Rattle.event_room.specs.Parts.{cause_of}
use Rattle.cxl_codec.specs.Cells.{bytes_of}
use Rattle.cxl_codec.specs.Events.{cause_cells}
use Rattle.cxl_codec.proofs.events.put_cause.Goals as goal

pub returns-in-Op-clause-items : goal.returns-in-Op-clause-items
returns-in-Op-clause-items c =
    subst (λ s. c.put_begun.new.out.items ≡ c.args.out.now.items ++ bytes_of (cause_cells c.args.version (cause_of s))) (sym c.in-Op.is) c.put_begun.ensures.items

pub returns-in-Take-clause-items : goal.returns-in-Take-clause-items
returns-in-Take-clause-items c =
    subst (λ s. c.put_taken.new.out.items ≡ c.args.out.now.items ++ bytes_of (cause_cells c.args.version (cause_of s))) (sym c.in-Take.is) c.put_taken.ensures.items

pub returns-in-Act-clause-items : goal.returns-in-Act-clause-items
returns-in-Act-clause-items c =
    subst (λ s. c.put_done.new.out.items ≡ c.args.out.now.items ++ bytes_of (cause_cells c.args.version (cause_of s))) (sym c.in-Act.is) c.put_done.ensures.items
