-- The words of the device agent's contract: it stands for a list of its own events, newest first, that its rules allow, whatever the hosts did.
use Rattle.std.specs.Prelude.{List, [], flat_map, ℕ, ◌∷◌, ◌≡◌}
use Rattle.std.specs.declared.result.Result.{Result}
use Rattle.cxl_message.specs.declared.events.Act.{Act}
use Rattle.cxl_message.specs.declared.events.Cause.{Cause}
use Rattle.cxl_message.specs.declared.events.Event.{Event}
use Rattle.cxl_message.specs.declared.identifiers.Bytes64.{Bytes64}
use Rattle.cxl_message.specs.declared.identifiers.Line.{Line}
use Rattle.cxl_message.specs.Setup.{Configuration}
use Rattle.coherence_model.specs.Emission.{Emission}
use Rattle.coherence_model.specs.Next.{next_device_acts}
use Rattle.coherence_model.specs.Refusals.{Answer}
use Rattle.device_record.specs.Stands.{StandsForList}
use Rattle.device_rows.specs.declared.answers.DeviceRefusal.{DeviceRefusal}
use Rattle.device_state.specs.Agent.{AgentRecord}

-- the agent stands for a list of its own events, of a setup and an opening (own rule)
pub record StandsFor (agent : AgentRecord) (setup : Configuration) (opening : List (Line × Bytes64)) (mine : List Event) : Type 0 where
  pub setup_is : agent.setup ≡ setup
  pub kept : StandsForList agent.kept setup opening mine

-- a fact holds for each setup, opening and list that the agent stands for (own rule)
abbrev pub WhereStands : AgentRecord → (Configuration → List (Line × Bytes64) → List Event → Type 0) → Type 0
WhereStands agent Says = (setup : Configuration) (opening : List (Line × Bytes64)) (mine : List Event) → StandsFor agent setup opening mine → Says setup opening mine

-- the agent stands for some list (own rule)
pub record StandsForSome (agent : AgentRecord) : Type 0 where
  pub opening : List (Line × Bytes64)
  pub mine : List Event
  pub stands : StandsForList agent.kept agent.setup opening mine

-- the act of a cause, if it is one (own rule)
abbrev pub act_of_cause : Cause → List Act
act_of_cause (Cause.Op _ _ _) = []
act_of_cause (Cause.Take _ _) = []
act_of_cause (Cause.Act act) = act ∷ []

-- the acts that the device's rows allow after its own events, in the order of the next steps (own rule)
abbrev pub acts_after : Configuration → List (Line × Bytes64) → List Event → List Act
acts_after setup opening mine = flat_map (λ (e : Event). act_of_cause e.cause) (next_device_acts setup opening mine)

-- what an event sends and commits (own rule)
abbrev pub emission_of : Event → Emission
emission_of e = record { sends = e.sends; commit = e.commit }

-- an answer of a call as the model has it, by the event that was made (own rule)
abbrev pub made : Result (Unit {0}) DeviceRefusal → Event → Answer
made (Result.Ok _) e = Answer.Emits (emission_of e)
made (Result.Err (DeviceRefusal.NoCredit c)) e = Answer.NoCredit c
made (Result.Err (DeviceRefusal.Broken rule)) e = Answer.Broken rule

-- an event is one of an agent and has this cause (own rule)
pub record IsBy (g : ℕ) (cause : Cause) (e : Event) : Type 0 where
  pub agent : e.agent ≡ g
  pub cause_is : e.cause ≡ cause
