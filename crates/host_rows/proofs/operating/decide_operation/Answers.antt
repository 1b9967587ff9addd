-- The answer is that of the plan, or its refusal.
use Rattle.std.proofs.Common.{sym, ◌∙◌}
use Rattle.host_rows.proofs.Planned.{plan_stays, without_plan}
use Rattle.host_rows.proofs.operating.decide_operation.Goals as goal

pub returns-in-Some-clause-answer : goal.returns-in-Some-clause-answer
returns-in-Some-clause-answer c =
    let a = c.args.agent.now in
    plan_stays a.setup a.host c.args.stream c.args.index c.args.op.now a.kept c.in-Ok.plan c.args.cause.now c.in-Some.refusal (sym c.plan.ensures.value ∙ c.in-Ok.is) c.requires
    (sym c.in-Some.is ∙ c.keeps_back.ensures.refusal)

pub returns-in-Err-clause-answer : goal.returns-in-Err-clause-answer
returns-in-Err-clause-answer c =
    let a = c.args.agent.now in
    without_plan a.setup a.host c.args.stream c.args.index c.args.op.now a.kept c.in-Err.unplanned _ (sym c.plan.ensures.value ∙ c.in-Err.is) c.refusal_of.ensures
