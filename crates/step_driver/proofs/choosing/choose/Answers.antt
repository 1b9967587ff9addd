-- What is chosen is a next step by its number, or what a stream is offered behind those.
use Rattle.std.proofs.Common.{ap, arith, subst, sym, ◌+◌, ◌-◌, ◌<◌, ◌≡◌, ◌≤◌, ◌∙◌}
use Rattle.std.specs.Prelude.{slice_get, ◌%◌}
use Rattle.step_driver.specs.Picks.{IsOfferOf, offers}
use Rattle.step_driver.proofs.Chosen.{below_is_choice, choice_count, nothing_is_chosen, offer_is_chosen, step_is_chosen, steps_are_few}
use Rattle.step_driver.proofs.choosing.choose.Goals as goal

pub overflow_add-all : goal.overflow_add-all
overflow_add-all c =
    let few = steps_are_few c.args.script.now c.args.machine.now c.args.table.now c.choices-steps.result c.requires.kept c.choices-steps.ensures.count in
    omega (arith, few, c.offer_count.ensures.few)

pub returns-then-all-eq0-clause-chosen : goal.returns-then-all-eq0-clause-chosen
returns-then-all-eq0-clause-chosen c t kept =
    let script = c.args.script.now in
    let all = choice_count script c.requires.drivable t c.choices-steps.result c.offer_count.result (c.choices-steps.ensures.count script.setup script.opening t kept.stands) (c.offer_count.ensures.count t (c.ask.ensures.asked t kept)) in
    nothing_is_chosen script t c.args.pick (c.choices-steps.result + c.offer_count.result) all c.if-all-eq0.true

pub returns-then-k-steps-clause-chosen : goal.returns-then-k-steps-clause-chosen
returns-then-k-steps-clause-chosen c t kept =
    let script = c.args.script.now in
    let sum = c.choices-steps.result + c.offer_count.result in
    let steps = c.choices-steps.ensures.count script.setup script.opening t kept.stands in
    let all = choice_count script c.requires.drivable t c.choices-steps.result c.offer_count.result steps (c.offer_count.ensures.count t (c.ask.ensures.asked t kept)) in
    let low : c.args.pick % sum < c.choices-steps.result = subst (λ q. q % sum < c.choices-steps.result) c.from.ensures c.if-k-steps.true in
    rw c.from.ensures (
      below_is_choice c.args.machine.now c.choices-steps.result (c.args.pick % sum) c.choices-steps.ensures.count low,
      step_is_chosen script c.requires.drivable t c.args.pick sum c.choices-steps.result all steps low,
    )

pub returns-in-Some-clause-chosen : goal.returns-in-Some-clause-chosen
returns-in-Some-clause-chosen c t kept =
    let script = c.args.script.now in
    let sum = c.choices-steps.result + c.offer_count.result in
    let steps = c.choices-steps.ensures.count script.setup script.opening t kept.stands in
    let asked = c.ask.ensures.asked t kept in
    let all = choice_count script c.requires.drivable t c.choices-steps.result c.offer_count.result steps (c.offer_count.ensures.count t asked) in
    let past : c.choices-steps.result ≤ c.args.pick % sum = subst (λ q. c.choices-steps.result ≤ q % sum) c.from.ensures (omega (arith, c.if-k-steps.false)) in
    let is = offer_is_chosen script c.requires.drivable t c.args.pick sum c.choices-steps.result all steps past in
    let place : c.from.result % sum - c.choices-steps.result ≡ c.args.pick % sum - c.choices-steps.result = ap (λ q. q % sum - c.choices-steps.result) c.from.ensures in
    subst (λ o. IsOfferOf script t o c.in-Some.stream) (ap (slice_get (offers script t)) place ∙ sym is) (c.in-Some.ensures t asked)

pub returns-in-None-clause-chosen : goal.returns-in-None-clause-chosen
returns-in-None-clause-chosen c t kept =
    let script = c.args.script.now in
    let sum = c.choices-steps.result + c.offer_count.result in
    let steps = c.choices-steps.ensures.count script.setup script.opening t kept.stands in
    let asked = c.ask.ensures.asked t kept in
    let all = choice_count script c.requires.drivable t c.choices-steps.result c.offer_count.result steps (c.offer_count.ensures.count t asked) in
    let past : c.choices-steps.result ≤ c.args.pick % sum = subst (λ q. c.choices-steps.result ≤ q % sum) c.from.ensures (omega (arith, c.if-k-steps.false)) in
    let is = offer_is_chosen script c.requires.drivable t c.args.pick sum c.choices-steps.result all steps past in
    let place : c.from.result % sum - c.choices-steps.result ≡ c.args.pick % sum - c.choices-steps.result = ap (λ q. q % sum - c.choices-steps.result) c.from.ensures in
    is ∙ ap (slice_get (offers script t)) (sym place) ∙ c.in-None.ensures t asked
