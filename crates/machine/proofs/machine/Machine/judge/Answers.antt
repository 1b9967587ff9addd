-- An event that breaks none of the first rules is judged by its row.
use Rattle.std.proofs.Common.{ap, sym, ◌∙◌}
use Rattle.coherence_model.specs.Runs.{first_broken}
use Rattle.machine.specs.Stands.{verdict}
use Rattle.machine.proofs.Followed.{none_is_taken, some_is_refused}
use Rattle.machine.proofs.Judged.{breaks_nothing, breaks_row}
use Rattle.machine.proofs.Seen.{seen_as}
use Rattle.machine.proofs.machine.Machine.judge.Goals as goal

pub returns-then-not-follow-clause-answer : goal.returns-then-not-follow-clause-answer
returns-then-not-follow-clause-answer c = λ setup opening t stands.
    let m = c.args.self.now in
    let value = c.event-value.result in
    let keeps = c.broken_before_row.ensures.kept c.in_default.is in
    some_is_refused m value c.row_of.result
    (breaks_row m value c.row_of.result keeps.profile keeps.takeable keeps.order (λ setup opening t stands. sym c.if-not-follow.true ∙ c.follow.ensures.answered setup opening t stands)
    (seen_as c.follow.new.self m _ (c.follow.ensures.refused c.if-not-follow.true) c.row_of.ensures.rule))
    setup opening t stands
    ∙ ap (λ e. verdict (first_broken setup opening t e)) c.event-value.ensures

pub returns-clause-answer : goal.returns-clause-answer
returns-clause-answer c = λ setup opening t stands.
    let m = c.args.self.now in
    let value = c.event-value.result in
    let keeps = c.broken_before_row.ensures.kept c.in_default.is in
    none_is_taken m value
    (breaks_nothing m value keeps.profile keeps.takeable keeps.order (λ setup opening t stands. sym c.if-not-follow.false ∙ c.follow.ensures.answered setup opening t stands))
    setup opening t stands
    ∙ ap (λ e. verdict (first_broken setup opening t e)) c.event-value.ensures
