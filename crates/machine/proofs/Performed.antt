-- The machine after the next step of a number stands for the run with its event.
use Rattle.std.proofs.Common.{◌≡◌, ℕ, ◌<◌, true, false, List, ◌∷◌, length, Some, ap, sym, ◌∙◌, subst, arith}
use Rattle.std.specs.Prelude.{slice_get}
use Rattle.std.proofs.lemmas.Bool.{and_from, cond-false, cond-true, eqb-true}
use Rattle.cxl_message.specs.declared.events.Cause.{Cause}
use Rattle.cxl_message.specs.declared.events.Event.{Event}
use Rattle.coherence_model.specs.Fitting.{is_device}
use Rattle.coherence_model.specs.Next.{event_with, next_steps}
use Rattle.coherence_model.specs.Refusals.{Answer, device_answer, host_answer}
use Rattle.coherence_model.specs.Runs.{IsRun, is_run}
use Rattle.coherence_model.specs.Traces.{device, events_of}
use Rattle.answer_laws.specs.Answered.{agent_answer, emission_of}
use Rattle.next_laws.proofs.Steps.{next_is_allowed}
use Rattle.device_state.specs.Agent.{AgentRecord as DeviceRecord}
use Rattle.host_tables.specs.Agent.{AgentRecord as HostRecord}
use Rattle.link_queues.specs.Links.{HasRoomFor, LinkRecord, TakesFromHost, after_cause, after_sends}
use Rattle.link_queues.proofs.Going.{takes_are_there as takes_there}
use Rattle.machine.specs.declared.steps.Step.{Step}
use Rattle.machine_agents.specs.Going.{DevicePerforms, HostPerforms}
use Rattle.machine.specs.Stands.{MachineRecord, StandsFor, StandsForSome, WhereStands}
use Rattle.machine.specs.Steps.{IsStepAt}
use Rattle.machine.proofs.Answered.{DeviceGoesOn, HostGoesOn}
use Rattle.machine.proofs.Chosen.{agent_is_there, step_says}
use Rattle.machine.proofs.Followed.{IsNext, goes_on_at_device, goes_on_at_host, moved, sends_have_room, some_at_device as some_after_device, some_at_host as some_after_host, some_there}

-- the host of a number performs a cause, and the others are as they were
pub record HostsPerform (old new : List HostRecord) (h : ℕ) (cause : Cause) (e : Event) : Type 0 where
  pub count : length new ≡ length old
  pub others : (k : ℕ) → (k ≡ h → ⊥) → slice_get new k ≡ slice_get old k
  pub performed : (a b : HostRecord) → slice_get old h ≡ Some a → slice_get new h ≡ Some b → HostPerforms a b cause e

-- an event that was made is the next step of a number, and of the step's cause
pub record IsMade (m : MachineRecord) (k : ℕ) (step : Step) (x : Event) : Type 0 where
  pub next : WhereStands m (λ setup opening t. slice_get (next_steps setup opening t) k ≡ Some x)
  pub agent : x.agent ≡ step.agent
  pub cause : x.cause ≡ step.cause

-- it is allowed
made_is_next : (m : MachineRecord) (k : ℕ) (step : Step) (x : Event) → IsMade m k step x → IsNext m x
made_is_next m k step x made setup opening t stands = next_is_allowed setup opening stands.within t stands.run k x (made.next setup opening t stands)

-- by what its agent answers
made_by : (m : MachineRecord) (k : ℕ) (step : Step) (x : Event) → StandsForSome m → IsStepAt m k step
    → WhereStands m (λ setup opening t. (e : Event) → agent_answer setup opening step.agent step.cause (events_of step.agent t) ≡ Answer.Emits (emission_of e) → x ≡ event_with step.agent step.cause (emission_of e))
    → IsMade m k step x
made_by m k step x some at by =
    let here = step_says m m.setup some.opening some.t some.stands k step (at m.setup some.opening some.t some.stands) in
    let is = by m.setup some.opening some.t some.stands here.0 here.1.1 in
    record {
      next = λ setup opening t stands.
          let says = step_says m setup opening t stands k step (at setup opening t stands) in
          says.1.0 ∙ ap Some (sym (by setup opening t stands says.0 says.1.1 ∙ says.1.2));
      agent = ap (λ (y : Event). y.agent) is;
      cause = ap (λ (y : Event). y.cause) is;
    }

-- what a step takes is there to be taken
pub takes_at_step : (m : MachineRecord) (k : ℕ) (step : Step) → StandsForSome m → IsStepAt m k step → TakesFromHost m.links step.cause
takes_at_step m k step some at =
    let stands = some.stands in
    let says = step_says m m.setup some.opening some.t stands k step (at m.setup some.opening some.t stands) in
    let allowed = next_is_allowed m.setup some.opening stands.within some.t stands.run k says.0 says.1.0 in
    let run : IsRun m.setup some.opening (says.0 ∷ some.t) = and_from (is_run m.setup some.opening some.t) _ stands.run allowed in
    subst (TakesFromHost m.links) (ap (λ (e : Event). e.cause) (sym says.1.2)) (takes_there m.links m.setup some.opening some.t says.0 stands.links run)

-- there is room for what is sent
room_for : (m : MachineRecord) (k : ℕ) (step : Step) (x : Event) → StandsForSome m → IsMade m k step x → HasRoomFor (after_cause step.cause m.links) x.sends
room_for m k step x some made = subst (λ c. HasRoomFor (after_cause c m.links) x.sends) made.cause (sends_have_room m x some (made_is_next m k step x made))

-- the queues after the step are those after its event
links_after_event : (m : MachineRecord) (k : ℕ) (step : Step) (x : Event) (links : LinkRecord) → IsMade m k step x → links ≡ after_sends x.sends (after_cause step.cause m.links)
    → links ≡ after_sends x.sends (after_cause x.cause m.links)
links_after_event m k step x links made are = are ∙ ap (λ c. after_sends x.sends (after_cause c m.links)) (sym made.cause)

-- ---- the device

made_at_device : (m : MachineRecord) (k : ℕ) (step : Step) (new : DeviceRecord) (x : Event) → StandsForSome m → IsStepAt m k step → is_device step.agent ≡ true → DevicePerforms m.device new step.cause x
    → IsMade m k step x
made_at_device m k step new x some at dev performs = made_by m k step x some at (λ setup opening t stands e answer.
    let mine = events_of step.agent t in
    let agent = eqb-true step.agent device dev in
    let says = cond-true (is_device step.agent) (device_answer setup opening step.cause mine) (host_answer setup step.agent step.cause mine) dev in
    (performs setup opening (events_of device t) stands.device (emission_of e) (ap (λ g. device_answer setup opening step.cause (events_of g t)) (sym agent) ∙ sym says ∙ answer)).0
    ∙ ap (λ g. event_with g step.cause (emission_of e)) (sym agent))

device_goes : (m : MachineRecord) (k : ℕ) (step : Step) (new : DeviceRecord) (x : Event) → IsMade m k step x → DevicePerforms m.device new step.cause x → DeviceGoesOn m.device new x
device_goes m k step new x made performs setup opening mine stands agent answer =
    (performs setup opening mine stands (emission_of x) (ap (λ c. device_answer setup opening c mine) (sym made.cause) ∙ answer)).1

device_made : (m : MachineRecord) (k : ℕ) (step : Step) (x : Event) → IsMade m k step x → is_device step.agent ≡ true → is_device x.agent ≡ true
device_made m k step x made dev = ap is_device made.agent ∙ dev

pub room_at_device : (m : MachineRecord) (k : ℕ) (step : Step) (new : DeviceRecord) (x : Event) → StandsForSome m → IsStepAt m k step → is_device step.agent ≡ true
    → DevicePerforms m.device new step.cause x → HasRoomFor (after_cause step.cause m.links) x.sends
room_at_device m k step new x some at dev performs = room_for m k step x some (made_at_device m k step new x some at dev performs)

pub next_at_device : (m : MachineRecord) (k : ℕ) (step : Step) (new : DeviceRecord) (x : Event) → StandsForSome m → IsStepAt m k step → is_device step.agent ≡ true
    → DevicePerforms m.device new step.cause x → WhereStands m (λ setup opening t. slice_get (next_steps setup opening t) k ≡ Some x)
next_at_device m k step new x some at dev performs = (made_at_device m k step new x some at dev performs).next

pub goes_at_device : (m : MachineRecord) (k : ℕ) (step : Step) (new : DeviceRecord) (links : LinkRecord) (x : Event) → StandsForSome m → IsStepAt m k step → is_device step.agent ≡ true
    → DevicePerforms m.device new step.cause x → links ≡ after_sends x.sends (after_cause step.cause m.links)
    → WhereStands m (λ setup opening t. StandsFor (moved m m.hosts new links) setup opening (x ∷ t))
goes_at_device m k step new links x some at dev performs are =
    let made = made_at_device m k step new x some at dev performs in
    goes_on_at_device m x new links (made_is_next m k step x made) (device_made m k step x made dev) (device_goes m k step new x made performs) (links_after_event m k step x links made are)

pub some_at_device : (m : MachineRecord) (k : ℕ) (step : Step) (new : DeviceRecord) (links : LinkRecord) (x : Event) → StandsForSome m → IsStepAt m k step → is_device step.agent ≡ true
    → DevicePerforms m.device new step.cause x → links ≡ after_sends x.sends (after_cause step.cause m.links) → StandsForSome (moved m m.hosts new links)
some_at_device m k step new links x some at dev performs are =
    let made = made_at_device m k step new x some at dev performs in
    some_after_device m x new links some (made_is_next m k step x made) (device_made m k step x made dev) (device_goes m k step new x made performs) (links_after_event m k step x links made are)

-- ---- a host

pub host_is_there : (m : MachineRecord) (k : ℕ) (step : Step) → StandsForSome m → IsStepAt m k step → is_device step.agent ≡ false → step.agent < length m.hosts
host_is_there m k step some at other = subst (λ (n : ℕ). step.agent < n) (sym some.stands.host_count) (agent_is_there m k step some at other)

made_at_host : (m : MachineRecord) (k : ℕ) (step : Step) (new : List HostRecord) (x : Event) → StandsForSome m → IsStepAt m k step → is_device step.agent ≡ false → HostsPerform m.hosts new step.agent step.cause x
    → IsMade m k step x
made_at_host m k step new x some at other performs = made_by m k step x some at (λ setup opening t stands e answer.
    let mine = events_of step.agent t in
    let same = performs.count in
    let low = host_is_there m k step some at other in
    let a = some_there m.hosts step.agent low in
    let b = some_there new step.agent (omega arith) in
    let says = cond-false (is_device step.agent) (device_answer setup opening step.cause mine) (host_answer setup step.agent step.cause mine) other in
    (performs.performed a.0 b.0 a.1 b.1 setup step.agent mine (stands.hosts step.agent a.0 a.1) (emission_of e) (sym says ∙ answer)).0)

host_goes : (m : MachineRecord) (k : ℕ) (step : Step) (new : List HostRecord) (x : Event) → IsMade m k step x → HostsPerform m.hosts new step.agent step.cause x
    → (a b : HostRecord) → slice_get m.hosts x.agent ≡ Some a → slice_get new x.agent ≡ Some b → HostGoesOn a b x
host_goes m k step new x made performs a b old there setup h mine stands agent answer =
    (performs.performed a b (ap (slice_get m.hosts) (sym made.agent) ∙ old) (ap (slice_get new) (sym made.agent) ∙ there) setup h mine stands (emission_of x)
    (ap (λ c. host_answer setup h c mine) (sym made.cause) ∙ answer)).1

host_made : (m : MachineRecord) (k : ℕ) (step : Step) (x : Event) → IsMade m k step x → is_device step.agent ≡ false → is_device x.agent ≡ false
host_made m k step x made other = ap is_device made.agent ∙ other

others_stay : (m : MachineRecord) (k : ℕ) (step : Step) (new : List HostRecord) (x : Event) → IsMade m k step x → HostsPerform m.hosts new step.agent step.cause x
    → (j : ℕ) → (j ≡ x.agent → ⊥) → slice_get new j ≡ slice_get m.hosts j
others_stay m k step new x made performs j differ = performs.others j (λ same. differ (same ∙ sym made.agent))

pub room_at_host : (m : MachineRecord) (k : ℕ) (step : Step) (new : List HostRecord) (x : Event) → StandsForSome m → IsStepAt m k step → is_device step.agent ≡ false
    → HostsPerform m.hosts new step.agent step.cause x → HasRoomFor (after_cause step.cause m.links) x.sends
room_at_host m k step new x some at other performs = room_for m k step x some (made_at_host m k step new x some at other performs)

pub next_at_host : (m : MachineRecord) (k : ℕ) (step : Step) (new : List HostRecord) (x : Event) → StandsForSome m → IsStepAt m k step → is_device step.agent ≡ false
    → HostsPerform m.hosts new step.agent step.cause x → WhereStands m (λ setup opening t. slice_get (next_steps setup opening t) k ≡ Some x)
next_at_host m k step new x some at other performs = (made_at_host m k step new x some at other performs).next

pub goes_at_host : (m : MachineRecord) (k : ℕ) (step : Step) (new : List HostRecord) (links : LinkRecord) (x : Event) → StandsForSome m → IsStepAt m k step → is_device step.agent ≡ false
    → HostsPerform m.hosts new step.agent step.cause x → links ≡ after_sends x.sends (after_cause step.cause m.links)
    → WhereStands m (λ setup opening t. StandsFor (moved m new m.device links) setup opening (x ∷ t))
goes_at_host m k step new links x some at other performs are =
    let made = made_at_host m k step new x some at other performs in
    goes_on_at_host m x new links (made_is_next m k step x made) (host_made m k step x made other) performs.count (others_stay m k step new x made performs)
    (host_goes m k step new x made performs) (links_after_event m k step x links made are)

pub some_at_host : (m : MachineRecord) (k : ℕ) (step : Step) (new : List HostRecord) (links : LinkRecord) (x : Event) → StandsForSome m → IsStepAt m k step → is_device step.agent ≡ false
    → HostsPerform m.hosts new step.agent step.cause x → links ≡ after_sends x.sends (after_cause step.cause m.links) → StandsForSome (moved m new m.device links)
some_at_host m k step new links x some at other performs are =
    let made = made_at_host m k step new x some at other performs in
    some_after_host m x new links some (made_is_next m k step x made) (host_made m k step x made other) performs.count (others_stay m k step new x made performs)
    (host_goes m k step new x made performs) (links_after_event m k step x links made are)
