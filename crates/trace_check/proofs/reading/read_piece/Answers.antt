-- Item after item is judged, until more bytes are wanted or a fault is met.
use Rattle.std.proofs.Common.{List, Ok, ap, length, subst, sym, ◌+◌, ◌≡◌, ◌≤◌, ℕ}
use Rattle.std.specs.Prelude.{Result}
use Rattle.trace_stream.specs.declared.items.Found.{Found}
use Rattle.trace_stream.specs.declared.items.Item.{Item}
use Rattle.trace_stream.specs.declared.items.TraceFault.{TraceFault}
use Rattle.trace_stream.specs.Items.{found_of, item_of, outcome_with}
use Rattle.trace_stream.specs.Readings.{IsDrained, IsPause, fed_count, taken_with}
use Rattle.trace_check.specs.Judged.{Checking}
use Rattle.trace_check.proofs.Bytes.{IsAnswer, PieceAt, answer_on, comes_next, fault_ends, found_item, item_comes, item_goes_on, more_ends}
use Rattle.trace_check.proofs.reading.read_piece.Goals as goal

pub returns-in-More-clause-checked : goal.returns-in-More-clause-checked
returns-in-More-clause-checked c =
    let old : Checking = record { reading = c.args.reader.now; judging = c.args.judging.now } in
    let now : Checking = record { reading = c.loop-found.reader; judging = c.loop-found.judging } in
    let rest = c.loop-found.rest.now in
    let room = c.next_from.new.room in
    let next = c.next_from.new.self in
    let given = c.next_from.ensures in
    let one = subst (λ (r : Result (Found × ℕ) TraceFault). IsAnswer now.reading rest (taken_with now.reading rest r) (outcome_with room (found_of r)) next) c.in-Ok.is (answer_on now.reading rest room c.next_from.result next given.answer given.after given.goes_on) in
    let more = subst (λ (f : Found). IsAnswer now.reading rest c.in-Ok.count (Ok (item_of room f)) next) c.in-More.is one in
    let all = subst (λ (r : Result (Found × ℕ) TraceFault). outcome_with room (found_of r) ≡ Ok Item.More → taken_with now.reading rest r ≡ length rest) c.in-Ok.is given.all in
    let drained = subst (λ (r : Result (Found × ℕ) TraceFault). IsPause (outcome_with room (found_of r)) → IsDrained next) c.in-Ok.is given.drained in
    more_ends old now c.args.piece.now rest c.in-Ok.count next c.loop-found.invariant more (all (ap (λ (f : Found). Ok (item_of room f)) c.in-More.is))
    (drained (subst (λ (f : Found). IsPause (Ok (item_of room f))) (sym c.in-More.is) tt))

pub take-requires : goal.take-requires
take-requires c =
    let old : Checking = record { reading = c.args.reader.now; judging = c.args.judging.now } in
    let now : Checking = record { reading = c.loop-found.reader; judging = c.loop-found.judging } in
    let rest = c.loop-found.rest.now in
    let room = c.next_from.new.room in
    let next = c.next_from.new.self in
    let given = c.next_from.ensures in
    let item = item_of room c.in-Ok.found in
    let at = c.loop-found.invariant in
    let one = subst (λ (r : Result (Found × ℕ) TraceFault). IsAnswer now.reading rest (taken_with now.reading rest r) (outcome_with room (found_of r)) next) c.in-Ok.is (answer_on now.reading rest room c.next_from.result next given.answer given.after given.goes_on) in
    let comes = item_comes old now c.args.piece.now rest c.in-Ok.count item next (found_item room c.in-Ok.found c.in_default.not-More) at one c.requires.some.0 c.requires.some.1 in
    (comes.items, comes_next old now c.args.piece.now rest _ item next at c.requires.fits comes)

pub loop-found-preserved : goal.loop-found-preserved
loop-found-preserved c =
    let old : Checking = record { reading = c.args.reader.now; judging = c.args.judging.now } in
    let now : Checking = record { reading = c.loop-found.reader; judging = c.loop-found.judging } in
    let rest = c.loop-found.rest.now in
    let room = c.next_from.new.room in
    let next = c.next_from.new.self in
    let given = c.next_from.ensures in
    let item = item_of room c.in-Ok.found in
    let one = subst (λ (r : Result (Found × ℕ) TraceFault). IsAnswer now.reading rest (taken_with now.reading rest r) (outcome_with room (found_of r)) next) c.in-Ok.is (answer_on now.reading rest room c.next_from.result next given.answer given.after given.goes_on) in
    let within = subst (λ (r : Result (Found × ℕ) TraceFault). taken_with now.reading rest r ≤ length rest) c.in-Ok.is given.within in
    let fed = subst (λ (r : Result (Found × ℕ) TraceFault). fed_count next ≡ fed_count now.reading + taken_with now.reading rest r) c.in-Ok.is given.fed in
    let judged = c.in_ok-take-in_default.ensures in
    subst (λ (left : List ℕ). PieceAt old (record { reading = next; judging = c.take.new.self }) c.args.piece.now left) (sym c.split_at.ensures.back)
    (item_goes_on old now c.args.piece.now rest c.in-Ok.count item next c.take.new.self (found_item room c.in-Ok.found c.in_default.not-More) c.loop-found.invariant one c.requires.fits c.requires.some within fed judged.judged judged.stays)

pub returns-in-Err-clause-checked : goal.returns-in-Err-clause-checked
returns-in-Err-clause-checked c =
    let old : Checking = record { reading = c.args.reader.now; judging = c.args.judging.now } in
    let now : Checking = record { reading = c.loop-found.reader; judging = c.loop-found.judging } in
    let rest = c.loop-found.rest.now in
    let room = c.next_from.new.room in
    let next = c.next_from.new.self in
    let given = c.next_from.ensures in
    let one = subst (λ (r : Result (Found × ℕ) TraceFault). IsAnswer now.reading rest (taken_with now.reading rest r) (outcome_with room (found_of r)) next) c.in-Err.is (answer_on now.reading rest room c.next_from.result next given.answer given.after given.goes_on) in
    let drained = subst (λ (r : Result (Found × ℕ) TraceFault). IsPause (outcome_with room (found_of r)) → IsDrained next) c.in-Err.is given.drained in
    fault_ends old now c.args.piece.now rest _ next c.in-Err.field-0 c.loop-found.invariant one (drained tt)
