-- What the agents make of a cause, and how they go on by it. All of it is an own rule.
use Rattle.std.specs.Prelude.{Bool, Err, IsTrue, Ok, Result, false, length, ℕ, ◌↔◌, ◌∷◌, ◌≡◌}
use Rattle.cxl_message.specs.declared.events.Cause.{Cause}
use Rattle.cxl_message.specs.declared.events.Event.{Event}
use Rattle.coherence_model.specs.Emission.{Emission}
use Rattle.coherence_model.specs.Next.{event_with}
use Rattle.coherence_model.specs.Refusals.{Answer, device_answer, host_answer}
use Rattle.coherence_model.specs.Traces.{device}
use Rattle.answer_laws.specs.Answered.{emission_of}
use Rattle.device_engine.specs.Contract.{StandsFor as DeviceStandsFor, WhereStands as WhereDeviceStands, acts_after as device_acts_after}
use Rattle.device_state.specs.Agent.{AgentRecord as DeviceRecord}
use Rattle.host_home.specs.Contract.{StandsFor as HostStandsFor, WhereStands as WhereHostStands}
use Rattle.host_record.specs.Stands.{acts_after as host_acts_after}
use Rattle.host_rows.specs.declared.answers.HostRefusal.{HostRefusal}
use Rattle.host_tables.specs.Agent.{AgentRecord as HostRecord}

-- the event of a cause that a host answers, or its refusal
abbrev pub as_event : ℕ → Cause → Result Emission HostRefusal → Result Event HostRefusal
as_event h cause (Ok w) = Ok (event_with h cause w)
as_event h cause (Err refusal) = Err refusal

-- whether an agent that answers so makes an event of a cause, and which: none where it refuses
pub record MakesAnswer (g : ℕ) (cause : Cause) (answer : Answer) (makes : Bool) (e : Event) : Type 0 where
  pub makes_one : (w : Emission) → answer ≡ Answer.Emits w → IsTrue makes
  pub event : (w : Emission) → answer ≡ Answer.Emits w → e ≡ event_with g cause w

-- a host's agent performs a cause: wherever it answers with an emission, the event of it is made, and the agent stands for its list with the event then
abbrev pub HostPerforms : HostRecord → HostRecord → Cause → Event → Type 0
HostPerforms old new cause e =
    WhereHostStands old (λ setup h mine. (w : Emission) → host_answer setup h cause mine ≡ Answer.Emits w → (e ≡ event_with h cause w) × HostStandsFor new setup h (e ∷ mine))

-- the device performs a cause
abbrev pub DevicePerforms : DeviceRecord → DeviceRecord → Cause → Event → Type 0
DevicePerforms old new cause e =
    WhereDeviceStands old (λ setup opening mine. (w : Emission) → device_answer setup opening cause mine ≡ Answer.Emits w → (e ≡ event_with device cause w) × DeviceStandsFor new setup opening (e ∷ mine))

-- a host's agent follows an event where it answers the cause with what the event sends and commits: it stands for its list with the event then
pub record HostFollows (old new : HostRecord) (cause : Cause) (e : Event) (follows : Bool) : Type 0 where
  pub answer : WhereHostStands old (λ setup h mine. IsTrue follows ↔ (host_answer setup h cause mine ≡ Answer.Emits (emission_of e)))
  pub goes_on : WhereHostStands old (λ setup h mine. IsTrue follows → HostStandsFor new setup h (event_with h cause (emission_of e) ∷ mine))

-- and so does the device
pub record DeviceFollows (old new : DeviceRecord) (cause : Cause) (e : Event) (follows : Bool) : Type 0 where
  pub answer : WhereDeviceStands old (λ setup opening mine. IsTrue follows ↔ (device_answer setup opening cause mine ≡ Answer.Emits (emission_of e)))
  pub goes_on : WhereDeviceStands old (λ setup opening mine. IsTrue follows → DeviceStandsFor new setup opening (event_with device cause (emission_of e) ∷ mine))

-- so many acts of a host are next
abbrev pub HasHostActs : HostRecord → ℕ → Type 0
HasHostActs agent n = WhereHostStands agent (λ setup h mine. n ≡ length (host_acts_after setup h mine))

-- so many acts of the device are next
abbrev pub HasDeviceActs : DeviceRecord → ℕ → Type 0
HasDeviceActs agent n = WhereDeviceStands agent (λ setup opening mine. n ≡ length (device_acts_after setup opening mine))
