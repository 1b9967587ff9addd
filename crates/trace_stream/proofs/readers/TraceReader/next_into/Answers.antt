-- One more item is read.
use Rattle.std.proofs.Common.{◌<◌, length, ap, sym, subst, ◌∙◌}
use Rattle.trace_stream.specs.Items.{outcome_with}
use Rattle.trace_stream.specs.Readings.{Reading, IsDrained, fed_count}
use Rattle.trace_stream.specs.Runs.{HasRead, items_after}
use Rattle.trace_stream.proofs.Standing.{next_answered}
use Rattle.trace_stream.proofs.Pauses.{fewer_wait, room_left, drained_after, fed_kept}
use Rattle.trace_stream.proofs.readers.TraceReader.next_into.Goals as goal

pub returns-clause-goes_on : goal.returns-clause-goes_on
returns-clause-goes_on c bytes items has =
    let outcome = outcome_with c.step.new.room c.step.result in
    subst (λ (reading : Reading). HasRead bytes (items_after items outcome) reading) (sym c.step.ensures.after) (next_answered bytes items c.args.self.now outcome has c.step.ensures.answer)

pub returns-clause-fewer : goal.returns-clause-fewer
returns-clause-fewer c given =
    let outcome = outcome_with c.step.new.room c.step.result in
    subst (λ (reading : Reading). length reading.waiting < length c.args.self.now.waiting) (sym c.step.ensures.after) (fewer_wait c.args.self.now outcome c.step.ensures.answer given)

pub returns-clause-room_left : goal.returns-clause-room_left
returns-clause-room_left c more =
    let outcome = outcome_with c.step.new.room c.step.result in
    subst (λ (reading : Reading). length reading.waiting < 370) (sym c.step.ensures.after) (room_left c.args.self.now outcome c.step.ensures.answer more)

pub returns-clause-drained : goal.returns-clause-drained
returns-clause-drained c pause =
    let outcome = outcome_with c.step.new.room c.step.result in
    subst (λ (reading : Reading). IsDrained reading) (sym c.step.ensures.after) (drained_after c.args.self.now outcome c.step.ensures.answer pause)

pub returns-clause-fed : goal.returns-clause-fed
returns-clause-fed c =
    let outcome = outcome_with c.step.new.room c.step.result in
    ap fed_count c.step.ensures.after ∙ fed_kept c.args.self.now outcome c.step.ensures.answer
