-- Laws of the next steps, after every run of a setup within its limits.
use Rattle.std.specs.Prelude.{List, Some, map, slice_get, ℕ, ◌≡◌}
use Rattle.cxl_message.specs.declared.events.Event.{Event}
use Rattle.cxl_message.specs.declared.identifiers.Bytes64.{Bytes64}
use Rattle.cxl_message.specs.declared.identifiers.Line.{Line}
use Rattle.cxl_message.specs.Setup.{Configuration, IsWithinLimits}
use Rattle.coherence_model.specs.Next.{next_steps}
use Rattle.coherence_model.specs.Refusals.{Answer}
use Rattle.coherence_model.specs.Runs.{IsRun}
use Rattle.coherence_model.specs.Traces.{events_of}
use Rattle.answer_laws.specs.Answered.{agent_answer, emission_of}
use Rattle.next_laws.specs.Told.{steps_told, told}

-- the next steps are those that the queues and the agents tell, in their order
abbrev pub NextStepsAreTold : Type 0
NextStepsAreTold =
    (setup : Configuration) (opening : List (Line × Bytes64)) → IsWithinLimits setup → (t : List Event) → IsRun setup opening t
    → map told (next_steps setup opening t) ≡ steps_told setup opening t

-- each of them is what its agent answers to its cause after its own events
abbrev pub NextStepsAreAnswered : Type 0
NextStepsAreAnswered =
    (setup : Configuration) (opening : List (Line × Bytes64)) → IsWithinLimits setup → (t : List Event) → IsRun setup opening t → (k : ℕ) (e : Event)
    → slice_get (next_steps setup opening t) k ≡ Some e → agent_answer setup opening e.agent e.cause (events_of e.agent t) ≡ Answer.Emits (emission_of e)
