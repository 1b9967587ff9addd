-- The reader says whether an item comes, all was read, or a fault was met.
use Rattle.std.proofs.Common.{Err, Ok, Result, ap, drop, length, subst, sym, take, ◌-◌, ◌<◌, ◌≡◌}
use Rattle.trace_stream.specs.declared.items.Item.{Item}
use Rattle.trace_stream.specs.declared.items.TraceFault.{TraceFault}
use Rattle.trace_stream.specs.Items.{item_of}
use Rattle.trace_stream.specs.Readings.{IsPause, taken_with}
use Rattle.trace_stream.proofs.InPlace.{item_some}
use Rattle.trace_migration.specs.Walks.{IsAt, Walking, left}
use Rattle.trace_migration.proofs.Walked.{ReadsOn, ends, fails, fewer_left, goes_on, part_is}
use Rattle.trace_migration.proofs.walks.Walk.next.Goals as goal

pub returns-in-More-clause-over : goal.returns-in-More-clause-over
returns-in-More-clause-over c none bytes items at =
    let old : Walking = record { reading = c.self.inside.reader; rest = c.self.inside.rest.now } in
    let new : Walking = record { reading = c.next_from.new.self; rest = c.self.inside.rest.now } in
    let e = c.in-Ok.ensures in
    let more : item_of c.next_from.new.room c.in-Ok.found ≡ Item.More = ap (item_of c.next_from.new.room) c.in-More.is in
    let outcome : ◌≡◌ {A = Result Item TraceFault} (Ok (item_of c.next_from.new.room c.in-Ok.found)) (Ok Item.More) = ap Ok more in
    ends old new c.in-Ok.count (subst (λ (r : Result Item TraceFault). ReadsOn old c.in-Ok.count r new.reading) outcome e.goes_on) (e.all outcome)
    (e.drained (subst IsPause (sym outcome) tt)) bytes items (subst (λ (w : Walking). IsAt bytes items w) (sym c.self.view_is) at)

pub returns-in_default : goal.returns-in_default
returns-in_default c =
    let old : Walking = record { reading = c.self.inside.reader; rest = c.self.inside.rest.now } in
    let e = c.in-Ok.ensures in
    let rest = part_is c.in-Ok.count c.self.inside.rest.now in
    let some = item_some c.next_from.new.room c.in-Ok.found c.in_default.not-More in
    let item = item_of c.next_from.new.room c.in-Ok.found in
    let new : Walking = record { reading = c.next_from.new.self; rest = take (length c.self.inside.rest.now - c.in-Ok.count) (drop c.in-Ok.count c.self.inside.rest.now) } in
    record {
      item = λ bytes items at. goes_on old new c.in-Ok.count item some e.goes_on rest bytes items (subst (λ (w : Walking). IsAt bytes items w) (sym c.self.view_is) at);
      fewer = subst (λ (w : Walking). left new < left w) c.self.view_is (fewer_left old new c.in-Ok.count item some e.fewer e.within rest);
      over = λ none. cc;
    }

pub returns-in-Err-clause-over : goal.returns-in-Err-clause-over
returns-in-Err-clause-over c none bytes items at =
    let old : Walking = record { reading = c.self.inside.reader; rest = c.self.inside.rest.now } in
    let new : Walking = record { reading = c.next_from.new.self; rest = c.self.inside.rest.now } in
    let fault = c.in-Err.field-0 in
    let e = c.in-Err.ensures in
    fails old new (taken_with old.reading old.rest (Err fault)) fault e.goes_on (ap (λ r. r.fault) e.after) (e.drained tt) bytes items (subst (λ (w : Walking). IsAt bytes items w) (sym c.self.view_is) at)
