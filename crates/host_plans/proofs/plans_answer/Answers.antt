use Rattle.host_plans.proofs.PlansAnswer as plan
use Rattle.host_plans.proofs.plans_answer.Goals as goal

pub returns : goal.returns
returns c = record { law = plan.plans_answer }
