-- An event that its agent follows is what the agent answers to its cause.
use Rattle.std.proofs.Common.{◌≡◌, Bool, true, false, IsTrue, List, ◌∷◌, length, ◌<◌, Some, ap, refl, sym, ◌∙◌, subst, ℕ}
use Rattle.std.specs.Prelude.{slice_get, ◌↔◌}
use Rattle.std.proofs.lemmas.Bool.{and_from, and_parts, cond-false, cond-true, eqb-true, false≢true}
use Rattle.cxl_message.specs.declared.events.Event.{Event}
use Rattle.cxl_message.specs.declared.identifiers.Bytes64.{Bytes64}
use Rattle.cxl_message.specs.declared.identifiers.Line.{Line}
use Rattle.cxl_message.specs.Setup.{Configuration}
use Rattle.cxl_message.proofs.SameEvents.{commits_same, same-sends_eq, same_commits, sends_eq-same}
use Rattle.coherence_model.specs.Fitting.{is_device}
use Rattle.coherence_model.specs.Refusals.{Answer, device_answer, host_answer}
use Rattle.coherence_model.specs.Traces.{device, events_of}
use Rattle.answer_laws.specs.Answered.{emission_of, is_answered, is_by_answer}
use Rattle.device_engine.specs.Contract.{StandsFor as DeviceStandsFor, WhereStands as WhereDeviceStands}
use Rattle.device_state.specs.Agent.{AgentRecord as DeviceRecord}
use Rattle.host_home.specs.Contract.{StandsFor as HostStandsFor, WhereStands as WhereHostStands}
use Rattle.host_tables.specs.Agent.{AgentRecord as HostRecord}
use Rattle.machine_agents.specs.Going.{DeviceFollows, HostFollows}
use Rattle.machine.specs.Stands.{MachineRecord, WhereStands}

-- ---- events by answers

-- an event that an answer gives: the answer is what it sends and commits
by_answer : (e : Event) (answer : Answer) → IsTrue (is_by_answer e answer) → answer ≡ Answer.Emits (emission_of e)
by_answer e (Answer.Emits w) is =
    let same = and_parts _ _ is in
    λ i. Answer.Emits (record { sends = sym (sends_eq-same e.sends w.sends same.0) i; commit = sym (commits_same e.commit w.commit same.1) i })
by_answer e Answer.NoSuchLine is = absurd (false≢true is)
by_answer e Answer.Again is = absurd (false≢true is)
by_answer e Answer.NoTag is = absurd (false≢true is)
by_answer e Answer.NoWay is = absurd (false≢true is)
by_answer e (Answer.NoCredit c) is = absurd (false≢true is)
by_answer e (Answer.Broken rule) is = absurd (false≢true is)

-- and is given by it
gives : (e : Event) (answer : Answer) → answer ≡ Answer.Emits (emission_of e) → is_by_answer e answer ≡ true
gives e answer is = ap (is_by_answer e) is ∙ and_from _ _ (same-sends_eq e.sends e.sends refl) (same_commits e.commit e.commit refl)

tells : (e : Event) (answer : Answer) (b : Bool) → (IsTrue b ↔ (answer ≡ Answer.Emits (emission_of e))) → b ≡ is_by_answer e answer
tells e answer true h = sym (gives e answer (h.0 refl))
tells e answer false h = neither (is_by_answer e answer) refl
  where
    neither : (x : Bool) → is_by_answer e answer ≡ x → false ≡ is_by_answer e answer
    neither true is = absurd (false≢true (h.1 (by_answer e answer is)))
    neither false is = sym is

-- ---- the agents

-- the device goes on by an event of its own: wherever it answers the event's cause with the event, it stands for its list with the event then
abbrev pub DeviceGoesOn : DeviceRecord → DeviceRecord → Event → Type 0
DeviceGoesOn old new e =
    WhereDeviceStands old (λ setup opening mine. e.agent ≡ device → device_answer setup opening e.cause mine ≡ Answer.Emits (emission_of e) → DeviceStandsFor new setup opening (e ∷ mine))

-- and so does a host's agent
abbrev pub HostGoesOn : HostRecord → HostRecord → Event → Type 0
HostGoesOn old new e =
    WhereHostStands old (λ setup h mine. e.agent ≡ h → host_answer setup h e.cause mine ≡ Answer.Emits (emission_of e) → HostStandsFor new setup h (e ∷ mine))

pub device_goes_on : (old new : DeviceRecord) (e : Event) → DeviceFollows old new e.cause e true → DeviceGoesOn old new e
device_goes_on old new e follows setup opening mine stands at answer =
    subst (λ (x : Event). DeviceStandsFor new setup opening (x ∷ mine)) (λ i. record { agent = sym at i; cause = e.cause; sends = e.sends; commit = e.commit })
    (follows.goes_on setup opening mine stands refl)

pub host_goes_on : (old new : HostRecord) (e : Event) → HostFollows old new e.cause e true → HostGoesOn old new e
host_goes_on old new e follows setup h mine stands at answer =
    subst (λ (x : Event). HostStandsFor new setup h (x ∷ mine)) (λ i. record { agent = sym at i; cause = e.cause; sends = e.sends; commit = e.commit })
    (follows.goes_on setup h mine stands refl)

-- whether the device follows an event is whether it answers with it
pub device_tells : (m : MachineRecord) (new : DeviceRecord) (e : Event) (b : Bool) → is_device e.agent ≡ true → DeviceFollows m.device new e.cause e b
    → WhereStands m (λ setup opening t. b ≡ is_answered setup opening e (events_of e.agent t))
device_tells m new e b at follows setup opening t stands =
    let mine = events_of e.agent t in
    let says = cond-true (is_device e.agent) (device_answer setup opening e.cause mine) (host_answer setup e.agent e.cause mine) at in
    let agent = eqb-true e.agent device at in
    tells e (device_answer setup opening e.cause (events_of device t)) b (follows.answer setup opening (events_of device t) stands.device)
    ∙ ap (λ g. is_by_answer e (device_answer setup opening e.cause (events_of g t))) (sym agent) ∙ ap (is_by_answer e) (sym says)

-- and so it is with a host
pub host_tells : (m : MachineRecord) (a b : HostRecord) (e : Event) (c : Bool) → is_device e.agent ≡ false → slice_get m.hosts e.agent ≡ Some a → HostFollows a b e.cause e c
    → WhereStands m (λ setup opening t. c ≡ is_answered setup opening e (events_of e.agent t))
host_tells m a b e c other there follows setup opening t stands =
    let mine = events_of e.agent t in
    let says = cond-false (is_device e.agent) (device_answer setup opening e.cause mine) (host_answer setup e.agent e.cause mine) other in
    tells e (host_answer setup e.agent e.cause mine) c (follows.answer setup e.agent mine (stands.hosts e.agent a there)) ∙ ap (is_by_answer e) (sym says)
