-- What is known of an event of a host that goes, by which what the host keeps may change. All of it is an own rule.
use Rattle.std.specs.Prelude.{None, Option, Some}
use Rattle.cxl_message.specs.declared.events.Cause.{Cause}
use Rattle.coherence_model.specs.Emission.{Emission}
use Rattle.host_plans.specs.declared.plans.Plan.{Plan}
use Rattle.host_plans.specs.Plans.{PlanHolds}
use Rattle.host_tables.specs.Agent.{AgentRecord}
use Rattle.host_tables.specs.Kept.{IsOwed, IsRoomy}
use Rattle.host_tables.specs.Operating.{GoesOn}

-- the agent may make the event of a cause that emits so: an operation by a plan that holds and that emits it, a take for whose
-- message there is room, an act that is owed
abbrev pub MayGo : AgentRecord → Cause → Option Plan → Emission → Type 0
MayGo agent (Cause.Op s i op) (Some plan) w =
    PlanHolds agent.setup.ways agent.setup.lines agent.kept.ways agent.kept.busy op plan × GoesOn agent.host s i agent.kept op plan w
MayGo agent (Cause.Op s i op) None w = ⊥
MayGo agent (Cause.Take h n) plan w = IsRoomy agent.setup n agent.kept
MayGo agent (Cause.Act act) plan w = IsOwed act agent.kept
