-- A host's answer to an operation is that of its plan. All of it is an own rule.
use Rattle.std.specs.Prelude.{Err, Ok, Result, Some, ℕ, ◌≡◌}
use Rattle.cxl_message.specs.declared.events.Op.{Op}
use Rattle.cxl_message.specs.Setup.{Configuration}
use Rattle.coherence_model.specs.Refusals.{Answer}
use Rattle.host_record.specs.HostRecord.{HostRecord, view_in}
use Rattle.host_record.specs.ViewAnswers.{operation_answer_by, operation_or}
use Rattle.host_plans.specs.declared.plans.Plan.{Plan}
use Rattle.host_plans.specs.declared.plans.Unplanned.{Unplanned}
use Rattle.host_plans.specs.Plans.{planned, planned_emission}

-- the plan of an operation, by the record
abbrev pub planned_in : Configuration → HostRecord → Op → Result Plan Unplanned
planned_in setup k op = planned setup k.ways k.busy k.opened k.conflicts op

-- the answer to an operation by its plan: what it emits, where the credits, the profile and the stream's order allow it
abbrev pub answer_planned : (Plan → Answer) → Result Plan Unplanned → Answer
answer_planned go (Ok plan) = go plan
answer_planned go (Err Unplanned.NoSuchLine) = Answer.NoSuchLine
answer_planned go (Err Unplanned.Again) = Answer.Again
answer_planned go (Err Unplanned.NoTag) = Answer.NoTag
answer_planned go (Err Unplanned.NoWay) = Answer.NoWay

-- the answer of a host to an operation is that of its plan
abbrev pub PlansAnswer : Type 0
PlansAnswer =
    (setup : Configuration) (h s i : ℕ) (op : Op) (k : HostRecord)
    → operation_answer_by setup h s i op (view_in k)
    ≡ answer_planned (λ plan. operation_or setup h s i op (view_in k) (Some (planned_emission h s i k.ways op plan))) (planned_in setup k op)
