-- One more item is read, of bytes that wait and of a piece.
use Rattle.std.proofs.Common.{◌+◌, ◌<◌, ◌++◌, ℕ, List, length, take, arith, ap, sym, subst, ◌∙◌, length-append, length-take}
use Rattle.trace_stream.specs.Items.{found_of, outcome_with}
use Rattle.trace_stream.specs.Readings.{Reading, IsDrained, fed_count, fed_with, taken_with}
use Rattle.trace_stream.specs.Runs.{HasRead, items_after}
use Rattle.trace_stream.proofs.Standing.{fed_more, next_answered}
use Rattle.trace_stream.proofs.Pauses.{fewer_wait, drained_after, fed_kept}
use Rattle.trace_stream.proofs.readers.TraceReader.next_from.Goals as goal

pub returns-clause-goes_on : goal.returns-clause-goes_on
returns-clause-goes_on c bytes items has =
    let outcome = outcome_with c.read_from.new.room (found_of c.read_from.result) in
    let old = c.args.self.now in
    let piece = c.args.piece.now in
    let front : List ℕ = take (taken_with old piece c.read_from.result) piece in
    subst (λ (reading : Reading). HasRead (bytes ++ front) (items_after items outcome) reading) (sym c.read_from.ensures.after)
    (next_answered (bytes ++ front) items (fed_with old piece c.read_from.result) outcome (fed_more bytes front items old has) c.read_from.ensures.answer)

pub returns-clause-fewer : goal.returns-clause-fewer
returns-clause-fewer c given =
    let outcome = outcome_with c.read_from.new.room (found_of c.read_from.result) in
    let old = c.args.self.now in
    let piece = c.args.piece.now in
    let count : ℕ = taken_with old piece c.read_from.result in
    let fed = fed_with old piece c.read_from.result in
    subst (λ (reading : Reading). length reading.waiting < length old.waiting + count) (sym c.read_from.ensures.after)
    (omega (arith, fewer_wait fed outcome c.read_from.ensures.answer given, length-append old.waiting (take count piece), length-take count piece))

pub returns-clause-drained : goal.returns-clause-drained
returns-clause-drained c pause =
    let outcome = outcome_with c.read_from.new.room (found_of c.read_from.result) in
    let fed = fed_with c.args.self.now c.args.piece.now c.read_from.result in
    subst (λ (reading : Reading). IsDrained reading) (sym c.read_from.ensures.after) (drained_after fed outcome c.read_from.ensures.answer pause)

pub returns-clause-fed : goal.returns-clause-fed
returns-clause-fed c =
    let outcome = outcome_with c.read_from.new.room (found_of c.read_from.result) in
    let old = c.args.self.now in
    let piece = c.args.piece.now in
    let count : ℕ = taken_with old piece c.read_from.result in
    let fed = fed_with old piece c.read_from.result in
    omega (arith, ap fed_count c.read_from.ensures.after ∙ fed_kept fed outcome c.read_from.ensures.answer, length-append old.waiting (take count piece), length-take count piece, c.read_from.ensures.within)
