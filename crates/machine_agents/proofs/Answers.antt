-- What the agents' answers and steps say, by the results of the calls and the events in their rooms.
use Rattle.std.proofs.Common.{◌≡◌, ℕ, Bool, true, false, List, Option, Some, None, ◌∷◌, ap, sym, ◌∙◌, subst, refl}
use Rattle.std.specs.Prelude.{Err, IfOk, Ok, OnOk, Result}
use Rattle.std.proofs.lemmas.Option.{none-some}
use Rattle.cxl_message.specs.declared.events.Cause.{Cause}
use Rattle.cxl_message.specs.declared.events.Event.{Event}
use Rattle.cxl_message.specs.declared.identifiers.Bytes64.{Bytes64}
use Rattle.cxl_message.specs.declared.identifiers.Line.{Line}
use Rattle.cxl_message.specs.Setup.{Configuration}
use Rattle.coherence_model.specs.Emission.{Emission}
use Rattle.coherence_model.specs.Next.{event_with}
use Rattle.coherence_model.specs.Refusals.{Answer, device_answer, host_answer}
use Rattle.coherence_model.specs.Traces.{device}
use Rattle.answer_laws.specs.Answered.{emission_of, emitted_of}
use Rattle.device_engine.specs.Contract.{IsBy, StandsFor as DeviceStandsFor, WhereStands as WhereDeviceStands, made}
use Rattle.device_rows.specs.declared.answers.DeviceRefusal.{DeviceRefusal}
use Rattle.device_state.specs.Agent.{AgentRecord as DeviceRecord}
use Rattle.host_home.specs.Contract.{StandsFor as HostStandsFor, WhereStands as WhereHostStands}
use Rattle.host_rows.specs.declared.answers.HostRefusal.{HostRefusal}
use Rattle.host_rows.specs.Answers.{as_result, told}
use Rattle.host_tables.specs.Agent.{AgentRecord as HostRecord}
use Rattle.machine_agents.specs.Going.{DevicePerforms, HostPerforms, MakesAnswer, as_event}

-- ---- events in rooms

-- an event is another where agent and cause are the same, and what is sent and committed
same_event : (x e : Event) → x.agent ≡ e.agent → x.cause ≡ e.cause → emission_of x ≡ emission_of e → x ≡ e
same_event x e agent cause emission = λ i. record { agent = agent i; cause = cause i; sends = (emission i).sends; commit = (emission i).commit }

-- the host of an agent that stands for a list is that of the list
host_is : (a : HostRecord) (setup : Configuration) (h : ℕ) (mine : List Event) → HostStandsFor a setup h mine → a.host ≡ h
host_is a setup h mine stands = ap (λ (x : HostRecord). x.host) stands.kept

-- what a result of a host emits
abbrev ok_of : Result Emission HostRefusal → Option Emission
ok_of (Ok w) = Some w
ok_of (Err refusal) = None

result_emits : (a : Answer) → ok_of (as_result a) ≡ emitted_of a
result_emits (Answer.Emits w) = refl
result_emits Answer.NoSuchLine = refl
result_emits Answer.Again = refl
result_emits Answer.NoTag = refl
result_emits Answer.NoWay = refl
result_emits (Answer.NoCredit c) = refl
result_emits (Answer.Broken rule) = refl

-- ---- answers of a host

-- the event in the room is the answer
pub event_is_made :
    (a : HostRecord) (cause : Cause) (x : Event) (r : Result (Unit {0}) HostRefusal) (u : Unit {0}) → r ≡ Ok u
    → WhereHostStands a (λ setup h mine. told r x ≡ as_result (host_answer setup h cause mine)) → IfOk r (λ v. x.agent ≡ a.host) → IfOk r (λ v. x.cause ≡ cause)
    → WhereHostStands a (λ setup h mine. Ok x ≡ as_event h cause (as_result (host_answer setup h cause mine)))
event_is_made a cause x (Ok v) u is answer agent same setup h mine stands =
    ap {B = Result Event HostRefusal} Ok (same_event x (event_with h cause (emission_of x)) (agent ∙ host_is a setup h mine stands) same refl) ∙ ap (as_event h cause) (answer setup h mine stands)
event_is_made a cause x (Err refusal) u is answer agent same setup h mine stands = cc

-- or the refusal is
pub refusal_is_made :
    (a : HostRecord) (cause : Cause) (x : Event) (r : Result (Unit {0}) HostRefusal) (refusal : HostRefusal) → r ≡ Err refusal
    → WhereHostStands a (λ setup h mine. told r x ≡ as_result (host_answer setup h cause mine))
    → WhereHostStands a (λ setup h mine. Err refusal ≡ as_event h cause (as_result (host_answer setup h cause mine)))
refusal_is_made a cause x (Ok v) refusal is answer setup h mine stands = cc
refusal_is_made a cause x (Err other) refusal is answer setup h mine stands =
    let same : other ≡ refusal = cc in ap {B = Result Event HostRefusal} Err (sym same) ∙ ap (as_event h cause) (answer setup h mine stands)

-- ---- answers of the device

-- an answer of the device that is refused emits nothing
refused_emits : (x : Event) (refusal : DeviceRefusal) → emitted_of (made (Err refusal) x) ≡ None
refused_emits x (DeviceRefusal.NoCredit c) = refl
refused_emits x (DeviceRefusal.Broken rule) = refl

-- ---- steps

-- the emission of a result that is one
abbrev emission_or : Emission → Result Emission HostRefusal → Emission
emission_or w (Ok v) = v
emission_or w (Err refusal) = w

-- a host's agent performs a cause by its step
pub host_performs :
    (old new : HostRecord) (cause : Cause) (x : Event) (r : Result (Unit {0}) HostRefusal)
    → WhereHostStands old (λ setup h mine. told r x ≡ as_result (host_answer setup h cause mine)) → IfOk r (λ v. x.agent ≡ old.host) → IfOk r (λ v. x.cause ≡ cause)
    → WhereHostStands old (λ setup h mine. IfOk r (λ v. HostStandsFor new setup h (x ∷ mine))) → HostPerforms old new cause x
host_performs old new cause x (Ok v) answer agent same goes setup h mine stands w emits =
    let told_so : as_result (Answer.Emits (emission_of x)) ≡ as_result (Answer.Emits w) = answer setup h mine stands ∙ ap as_result emits in
    (same_event x (event_with h cause w) (agent ∙ host_is old setup h mine stands) same (ap (emission_or (emission_of x)) told_so), goes setup h mine stands)
host_performs old new cause x (Err refusal) answer agent same goes setup h mine stands w emits =
    absurd (none-some w (ap ok_of (answer setup h mine stands ∙ ap as_result emits)))

-- the emission of an answer that is one
abbrev emission_in : Emission → Answer → Emission
emission_in w (Answer.Emits v) = v
emission_in w Answer.NoSuchLine = w
emission_in w Answer.Again = w
emission_in w Answer.NoTag = w
emission_in w Answer.NoWay = w
emission_in w (Answer.NoCredit c) = w
emission_in w (Answer.Broken rule) = w

-- the device performs a cause by its step
pub device_performs :
    (old new : DeviceRecord) (cause : Cause) (x : Event) (r : Result (Unit {0}) DeviceRefusal)
    → WhereDeviceStands old (λ setup opening mine. made r x ≡ device_answer setup opening cause mine) → OnOk r (IsBy device cause x)
    → OnOk r (WhereDeviceStands old (λ setup opening mine. DeviceStandsFor new setup opening (x ∷ mine))) → DevicePerforms old new cause x
device_performs old new cause x (Ok v) answer by goes setup opening mine stands w emits =
    let told_so : Answer.Emits (emission_of x) ≡ Answer.Emits w = answer setup opening mine stands ∙ emits in
    (same_event x (event_with device cause w) by.agent by.cause_is (ap (emission_in (emission_of x)) told_so), goes setup opening mine stands)
device_performs old new cause x (Err refusal) answer by goes setup opening mine stands w emits =
    absurd (none-some w (sym (refused_emits x refusal) ∙ ap emitted_of (answer setup opening mine stands ∙ emits)))

-- ---- events made of causes

-- a host makes what it answers
pub host_makes_it :
    (a : HostRecord) (cause : Cause) (x : Event) (r : Result (Unit {0}) HostRefusal) (u : Unit {0}) → r ≡ Ok u
    → WhereHostStands a (λ setup h mine. told r x ≡ as_result (host_answer setup h cause mine)) → IfOk r (λ v. x.agent ≡ a.host) → IfOk r (λ v. x.cause ≡ cause)
    → WhereHostStands a (λ setup h mine. MakesAnswer h cause (host_answer setup h cause mine) true x)
host_makes_it a cause x (Ok v) u is answer agent same setup h mine stands = record {
  makes_one = λ w emits. refl;
  event = λ w emits.
      let told_so : as_result (Answer.Emits (emission_of x)) ≡ as_result (Answer.Emits w) = answer setup h mine stands ∙ ap as_result emits in
      same_event x (event_with h cause w) (agent ∙ host_is a setup h mine stands) same (ap (emission_or (emission_of x)) told_so);
}
host_makes_it a cause x (Err refusal) u is answer agent same setup h mine stands = absurd cc

-- and none where it refuses
pub host_makes_none :
    (a : HostRecord) (cause : Cause) (x : Event) (r : Result (Unit {0}) HostRefusal) (refusal : HostRefusal) → r ≡ Err refusal
    → WhereHostStands a (λ setup h mine. told r x ≡ as_result (host_answer setup h cause mine))
    → WhereHostStands a (λ setup h mine. MakesAnswer h cause (host_answer setup h cause mine) false x)
host_makes_none a cause x (Ok v) refusal is answer setup h mine stands = absurd cc
host_makes_none a cause x (Err other) refusal is answer setup h mine stands =
    let none : (w : Emission) → host_answer setup h cause mine ≡ Answer.Emits w → ⊥ = λ w emits. none-some w (ap ok_of (answer setup h mine stands ∙ ap as_result emits)) in
    record { makes_one = λ w emits. absurd (none w emits); event = λ w emits. absurd (none w emits) }

-- so does the device
pub device_makes_it :
    (a : DeviceRecord) (cause : Cause) (x : Event) (r : Result (Unit {0}) DeviceRefusal) (u : Unit {0}) → r ≡ Ok u
    → WhereDeviceStands a (λ setup opening mine. made r x ≡ device_answer setup opening cause mine) → OnOk r (IsBy device cause x)
    → WhereDeviceStands a (λ setup opening mine. MakesAnswer device cause (device_answer setup opening cause mine) true x)
device_makes_it a cause x (Ok v) u is answer by setup opening mine stands = record {
  makes_one = λ w emits. refl;
  event = λ w emits.
      let told_so : Answer.Emits (emission_of x) ≡ Answer.Emits w = answer setup opening mine stands ∙ emits in
      same_event x (event_with device cause w) by.agent by.cause_is (ap (emission_in (emission_of x)) told_so);
}
device_makes_it a cause x (Err refusal) u is answer by setup opening mine stands = absurd cc

pub device_makes_none :
    (a : DeviceRecord) (cause : Cause) (x : Event) (r : Result (Unit {0}) DeviceRefusal) (refusal : DeviceRefusal) → r ≡ Err refusal
    → WhereDeviceStands a (λ setup opening mine. made r x ≡ device_answer setup opening cause mine)
    → WhereDeviceStands a (λ setup opening mine. MakesAnswer device cause (device_answer setup opening cause mine) false x)
device_makes_none a cause x (Ok v) refusal is answer setup opening mine stands = absurd cc
device_makes_none a cause x (Err other) refusal is answer setup opening mine stands =
    let none : (w : Emission) → device_answer setup opening cause mine ≡ Answer.Emits w → ⊥ =
    λ w emits. none-some w (sym (refused_emits x other) ∙ ap emitted_of (answer setup opening mine stands ∙ emits))
    in
    record { makes_one = λ w emits. absurd (none w emits); event = λ w emits. absurd (none w emits) }

-- ---- agents that are the same

-- what holds for each list that a host's agent stands for holds where another is the same
pub host_seen : (v a : HostRecord) (Says : Configuration → ℕ → List Event → Type 0) → v ≡ a → WhereHostStands v Says → WhereHostStands a Says
host_seen v a Says is holds setup h mine stands = holds setup h mine (subst (λ (x : HostRecord). HostStandsFor x setup h mine) (sym is) stands)

pub device_seen : (v a : DeviceRecord) (Says : Configuration → List (Line × Bytes64) → List Event → Type 0) → v ≡ a → WhereDeviceStands v Says → WhereDeviceStands a Says
device_seen v a Says is holds setup opening mine stands = holds setup opening mine (subst (λ (x : DeviceRecord). DeviceStandsFor x setup opening mine) (sym is) stands)
