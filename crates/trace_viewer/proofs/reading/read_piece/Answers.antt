-- Item after item is shown, until more bytes are wanted or a fault is met.
use Rattle.std.proofs.Common.{List, Ok, ap, arith, length, subst, sym, ◌+◌, ◌≡◌, ◌≤◌, ℕ}
use Rattle.std.specs.Prelude.{Result}
use Rattle.trace_stream.specs.declared.items.Found.{Found}
use Rattle.trace_stream.specs.declared.items.Item.{Item}
use Rattle.trace_stream.specs.declared.items.TraceFault.{TraceFault}
use Rattle.trace_stream.specs.Items.{found_of, item_of, outcome_with}
use Rattle.trace_stream.specs.Readings.{IsDrained, IsPause, fed_count, taken_with}
use Rattle.trace_viewer.specs.Viewing.{Viewing}
use Rattle.trace_viewer.proofs.Bytes.{IsAnswer, PieceAt, answer_on, fault_ends, found_item, item_comes, item_goes_on, item_lost, may_count, more_ends, piece_starts}
use Rattle.trace_viewer.proofs.Parts.{in_any_error, no_value}
use Rattle.trace_viewer.proofs.reading.read_piece.Goals as goal

pub loop-found-init : goal.loop-found-init
loop-found-init c = piece_starts (record { reading = c.args.reader.now; counted = c.args.tallies.now }) c.args.out.now.items c.args.piece.now

pub returns-in-More-clause-shown : goal.returns-in-More-clause-shown
returns-in-More-clause-shown c =
    let old : Viewing = record { reading = c.args.reader.now; counted = c.args.tallies.now } in
    let now : Viewing = record { reading = c.loop-found.reader; counted = c.loop-found.tallies } in
    let start = c.args.out.now.items in
    let out = c.loop-found.out.items in
    let rest = c.loop-found.rest.now in
    let room = c.next_from.new.room in
    let next = c.next_from.new.self in
    let given = c.next_from.ensures in
    let one = subst (λ (r : Result (Found × ℕ) TraceFault). IsAnswer now.reading rest (taken_with now.reading rest r) (outcome_with room (found_of r)) next) c.in-Ok.is (answer_on now.reading rest room c.next_from.result next given.answer given.after given.goes_on) in
    let more = subst (λ (f : Found). IsAnswer now.reading rest c.in-Ok.count (Ok (item_of room f)) next) c.in-More.is one in
    let all = subst (λ (r : Result (Found × ℕ) TraceFault). outcome_with room (found_of r) ≡ Ok Item.More → taken_with now.reading rest r ≡ length rest) c.in-Ok.is given.all in
    let drained = subst (λ (r : Result (Found × ℕ) TraceFault). IsPause (outcome_with room (found_of r)) → IsDrained next) c.in-Ok.is given.drained in
    more_ends old now start out c.args.piece.now rest c.in-Ok.count next c.loop-found.invariant more (all (ap (λ (f : Found). Ok (item_of room f)) c.in-More.is))
    (drained (subst (λ (f : Found). IsPause (Ok (item_of room f))) (sym c.in-More.is) tt))

pub show_item-requires : goal.show_item-requires
show_item-requires c =
    let old : Viewing = record { reading = c.args.reader.now; counted = c.args.tallies.now } in
    let now : Viewing = record { reading = c.loop-found.reader; counted = c.loop-found.tallies } in
    let start = c.args.out.now.items in
    let out = c.loop-found.out.items in
    let rest = c.loop-found.rest.now in
    let room = c.next_from.new.room in
    let next = c.next_from.new.self in
    let given = c.next_from.ensures in
    let item = item_of room c.in-Ok.found in
    let one = subst (λ (r : Result (Found × ℕ) TraceFault). IsAnswer now.reading rest (taken_with now.reading rest r) (outcome_with room (found_of r)) next) c.in-Ok.is (answer_on now.reading rest room c.next_from.result next given.answer given.after given.goes_on) in
    let at = c.loop-found.invariant in
    let some = c.requires.viewing in
    let comes = item_comes old now start out c.args.piece.now rest c.in-Ok.count item next (found_item room c.in-Ok.found c.in_default.not-More) at one some.0 some.1 some.2 in
    may_count old now start out c.args.piece.now rest _ _ _ item next at c.requires.fits comes

pub returns-in_err-show_item-in_default : goal.returns-in_err-show_item-in_default
returns-in_err-show_item-in_default c =
    let old : Viewing = record { reading = c.args.reader.now; counted = c.args.tallies.now } in
    let now : Viewing = record { reading = c.loop-found.reader; counted = c.loop-found.tallies } in
    let start = c.args.out.now.items in
    let out = c.loop-found.out.items in
    let rest = c.loop-found.rest.now in
    let room = c.next_from.new.room in
    let next = c.next_from.new.self in
    let given = c.next_from.ensures in
    let item = item_of room c.in-Ok.found in
    let one = subst (λ (r : Result (Found × ℕ) TraceFault). IsAnswer now.reading rest (taken_with now.reading rest r) (outcome_with room (found_of r)) next) c.in-Ok.is (answer_on now.reading rest room c.next_from.result next given.answer given.after given.goes_on) in
    let at = c.loop-found.invariant in
    let was = at.fed in
    let fed = given.fed in
    let within = given.within in
    record {
      shown = λ bytes text has. no_value _ c.from_residual.result c.from_residual.ensures.0;
      front = λ bytes text has.
          in_any_error c.from_residual.result
          (item_lost old now start out c.show_item.new.out.items c.args.piece.now rest c.in-Ok.count item next (found_item room c.in-Ok.found c.in_default.not-More) at one c.in_err-show_item-in_default.ensures.err bytes text has);
      fed = omega (arith, was, fed, within);
    }

pub loop-found-preserved : goal.loop-found-preserved
loop-found-preserved c =
    let old : Viewing = record { reading = c.args.reader.now; counted = c.args.tallies.now } in
    let now : Viewing = record { reading = c.loop-found.reader; counted = c.loop-found.tallies } in
    let start = c.args.out.now.items in
    let out = c.loop-found.out.items in
    let rest = c.loop-found.rest.now in
    let room = c.next_from.new.room in
    let next = c.next_from.new.self in
    let given = c.next_from.ensures in
    let item = item_of room c.in-Ok.found in
    let one = subst (λ (r : Result (Found × ℕ) TraceFault). IsAnswer now.reading rest (taken_with now.reading rest r) (outcome_with room (found_of r)) next) c.in-Ok.is (answer_on now.reading rest room c.next_from.result next given.answer given.after given.goes_on) in
    let within = subst (λ (r : Result (Found × ℕ) TraceFault). taken_with now.reading rest r ≤ length rest) c.in-Ok.is given.within in
    let fed = subst (λ (r : Result (Found × ℕ) TraceFault). fed_count next ≡ fed_count now.reading + taken_with now.reading rest r) c.in-Ok.is given.fed in
    let done = c.in_ok-show_item-in_default.ensures in
    let new : Viewing = record { reading = next; counted = c.show_item.new.tallies } in
    subst (λ (left : List ℕ). PieceAt old new start c.show_item.new.out.items c.args.piece.now left) (sym c.split_at.ensures.back)
    (item_goes_on old now start out c.show_item.new.out.items c.args.piece.now rest c.in-Ok.count item next c.show_item.new.tallies (found_item room c.in-Ok.found c.in_default.not-More) c.loop-found.invariant one within fed done.shown done.counted)

pub returns-in-Err-clause-shown : goal.returns-in-Err-clause-shown
returns-in-Err-clause-shown c =
    let old : Viewing = record { reading = c.args.reader.now; counted = c.args.tallies.now } in
    let now : Viewing = record { reading = c.loop-found.reader; counted = c.loop-found.tallies } in
    let start = c.args.out.now.items in
    let out = c.loop-found.out.items in
    let rest = c.loop-found.rest.now in
    let room = c.next_from.new.room in
    let next = c.next_from.new.self in
    let given = c.next_from.ensures in
    let one = subst (λ (r : Result (Found × ℕ) TraceFault). IsAnswer now.reading rest (taken_with now.reading rest r) (outcome_with room (found_of r)) next) c.in-Err.is (answer_on now.reading rest room c.next_from.result next given.answer given.after given.goes_on) in
    let drained = subst (λ (r : Result (Found × ℕ) TraceFault). IsPause (outcome_with room (found_of r)) → IsDrained next) c.in-Err.is given.drained in
    fault_ends old now start out c.args.piece.now rest _ next c.in-Err.field-0 c.loop-found.invariant one (drained tt)
