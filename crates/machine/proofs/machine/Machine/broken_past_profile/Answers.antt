-- K0 and S0 are tried in this order.
use Rattle.std.proofs.Common.{sym, ◌∙◌}
use Rattle.machine.proofs.Judged.{breaks_order, breaks_take}
use Rattle.machine.proofs.machine.Machine.broken_past_profile.Goals as goal

pub returns-then-not-may_take-clause-broken : goal.returns-then-not-may_take-clause-broken
returns-then-not-may_take-clause-broken c = breaks_take c.args.self.now c.args.event.now c.requires (λ setup opening t stands. sym c.if-not-may_take.true ∙ c.may_take.ensures.takeable setup opening t stands)

pub returns-then-not-keeps_order-clause-broken : goal.returns-then-not-keeps_order-clause-broken
returns-then-not-keeps_order-clause-broken c =
    breaks_order c.args.self.now c.args.event.now c.requires (λ setup opening t stands. sym c.if-not-may_take.false ∙ c.may_take.ensures.takeable setup opening t stands)
    (λ setup opening t stands. sym c.if-not-keeps_order.true ∙ c.keeps_order.ensures.order setup opening t stands)

pub returns-clause-kept : goal.returns-clause-kept
returns-clause-kept c = λ none. record {
  profile = c.requires;
  takeable = λ setup opening t stands. sym c.if-not-may_take.false ∙ c.may_take.ensures.takeable setup opening t stands;
  order = λ setup opening t stands. sym c.if-not-keeps_order.false ∙ c.keeps_order.ensures.order setup opening t stands;
}
