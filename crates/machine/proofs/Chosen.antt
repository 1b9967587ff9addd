-- The event of the step of a number is the next step of that number, where the machine stands for a run.
use Rattle.std.proofs.Common.{◌≡◌, ℕ, zero, suc, ◌<◌, Bool, true, false, List, [], ◌∷◌, length, Option, Some, None, refl, ap, sym, ◌∙◌, subst, arith}
use Rattle.std.specs.Prelude.{option_map, slice_get}
use Rattle.std.proofs.lemmas.Bool.{false≢true}
use Rattle.std.proofs.lemmas.Option.{same_Some, slice_get-map}
use Rattle.cxl_message.specs.declared.events.Cause.{Cause}
use Rattle.cxl_message.specs.declared.events.Event.{Event}
use Rattle.cxl_message.specs.declared.identifiers.Bytes64.{Bytes64}
use Rattle.cxl_message.specs.declared.identifiers.Line.{Line}
use Rattle.cxl_message.specs.Setup.{Configuration}
use Rattle.coherence_model.specs.Fitting.{is_device}
use Rattle.coherence_model.specs.Next.{event_with, next_steps}
use Rattle.coherence_model.specs.Refusals.{Answer}
use Rattle.coherence_model.specs.Traces.{events_of}
use Rattle.coherence_model.proofs.Allowed.{allowed_own, own_half_parts}
use Rattle.answer_laws.specs.Answered.{agent_answer, emission_of}
use Rattle.next_laws.specs.Told.{steps_told, told}
use Rattle.next_laws.proofs.Steps.{next_is_allowed, next_steps_are_answered, next_steps_are_told}
use Rattle.machine.specs.declared.steps.Step.{Step}
use Rattle.machine_agents.specs.Going.{MakesAnswer}
use Rattle.machine.specs.Stands.{MachineRecord, StandsFor, StandsForSome, WhereStands}
use Rattle.machine.specs.Steps.{IsChoice, IsStepAt, parts_of}
use Rattle.machine.proofs.Judged.{agent_is_host}

-- what is told at a number is told of the next step there
of_option : (p : ℕ × Cause) (o : Option Event) → Some p ≡ option_map told o → (e : Event) × ((o ≡ Some e) × (told e ≡ p))
of_option p (Some e) is = (e, (refl, sym (same_Some p (told e) is)))
of_option p None is = absurd cc

pub next_of : (m : MachineRecord) (setup : Configuration) (opening : List (Line × Bytes64)) (t : List Event) → StandsFor m setup opening t → (k : ℕ) (p : ℕ × Cause)
    → Some p ≡ slice_get (steps_told setup opening t) k → (e : Event) × ((slice_get (next_steps setup opening t) k ≡ Some e) × (told e ≡ p))
next_of m setup opening t stands k p at =
    of_option p (slice_get (next_steps setup opening t) k)
    (at ∙ ap (λ steps. slice_get steps k) (sym (next_steps_are_told setup opening stands.within t stands.run)) ∙ slice_get-map told (next_steps setup opening t) k)

-- the agent of a next step is the device or one of the hosts
pub agent_is_there : (m : MachineRecord) (k : ℕ) (step : Step) → StandsForSome m → IsStepAt m k step → is_device step.agent ≡ false → step.agent < m.setup.hosts
agent_is_there m k step some at other =
    let stands = some.stands in
    let found = next_of m m.setup some.opening some.t stands k (parts_of step) (at m.setup some.opening some.t stands) in
    let agent : found.0.agent ≡ step.agent = ap (λ (p : ℕ × Cause). p.0) found.1.1 in
    let allowed = next_is_allowed m.setup some.opening stands.within some.t stands.run k found.0 found.1.0 in
    let profile = (own_half_parts m.setup some.opening found.0 (events_of found.0.agent some.t) (allowed_own m.setup some.opening some.t found.0 allowed)).0 in
    subst (λ (g : ℕ). g < m.setup.hosts) agent (agent_is_host m found.0 profile (subst (λ g. is_device g ≡ false) (sym agent) other))

-- there is none at a number
none_there : (setup : Configuration) (opening : List (Line × Bytes64)) (t : List Event) (k : ℕ) (o : Option Event) → slice_get (next_steps setup opening t) k ≡ o → None ≡ option_map told o
    → k < length (next_steps setup opening t) → ⊥
none_there setup opening t k None at is low = past (next_steps setup opening t) k at low
  where
    past : (es : List Event) (j : ℕ) → slice_get es j ≡ None → j < length es → ⊥
    past [] j none less = omega arith
    past (e ∷ es) zero none less = cc
    past (e ∷ es) (suc j) none less = past es j none (omega arith)
none_there setup opening t k (Some e) at is low = cc

-- a step is told at the number of a next step
pub step_is_there : (m : MachineRecord) (k : ℕ) (o : Option Step) → StandsForSome m → IsChoice m k
    → WhereStands m (λ setup opening t. option_map parts_of o ≡ slice_get (steps_told setup opening t) k) → o ≡ None → ⊥
step_is_there m k o some choice told_so none =
    let stands = some.stands in
    none_there m.setup some.opening some.t k (slice_get (next_steps m.setup some.opening some.t) k) refl
    (ap (option_map parts_of) (sym none) ∙ told_so m.setup some.opening some.t stands
    ∙ ap (λ steps. slice_get steps k) (sym (next_steps_are_told m.setup some.opening stands.within some.t stands.run))
    ∙ slice_get-map told (next_steps m.setup some.opening some.t) k)
    (choice m.setup some.opening some.t stands)

-- which is the one that was picked
pub step_is_told : (m : MachineRecord) (k : ℕ) (o : Option Step) (step : Step) → o ≡ Some step
    → WhereStands m (λ setup opening t. option_map parts_of o ≡ slice_get (steps_told setup opening t) k) → IsStepAt m k step
step_is_told m k o step is told_so setup opening t stands = ap (option_map parts_of) (sym is) ∙ told_so setup opening t stands

-- ---- the event of a step

-- what the agent of a step that is told answers, and which event that is
pub step_says : (m : MachineRecord) (setup : Configuration) (opening : List (Line × Bytes64)) (t : List Event) → StandsFor m setup opening t → (k : ℕ) (step : Step)
    → Some (parts_of step) ≡ slice_get (steps_told setup opening t) k
    → (e : Event) × ((slice_get (next_steps setup opening t) k ≡ Some e)
    × (agent_answer setup opening step.agent step.cause (events_of step.agent t) ≡ Answer.Emits (emission_of e)) × (event_with step.agent step.cause (emission_of e) ≡ e))
step_says m setup opening t stands k step at =
    let found = next_of m setup opening t stands k (parts_of step) at in
    let e = found.0 in
    let same = found.1.1 in (
      e,
      (
        found.1.0,
        subst (λ (p : ℕ × Cause). agent_answer setup opening p.0 p.1 (events_of p.0 t) ≡ Answer.Emits (emission_of e)) same
            (next_steps_are_answered setup opening stands.within t stands.run k e found.1.0),
        ap (λ (p : ℕ × Cause). event_with p.0 p.1 (emission_of e)) (sym same),
      ),
    )

-- the event that is made is the next step
pub event_is_next : (m : MachineRecord) (k : ℕ) (step : Step) (b : Bool) (x : Event) → IsStepAt m k step
    → WhereStands m (λ setup opening t. MakesAnswer step.agent step.cause (agent_answer setup opening step.agent step.cause (events_of step.agent t)) b x)
    → WhereStands m (λ setup opening t. slice_get (next_steps setup opening t) k ≡ Some x)
event_is_next m k step b x at makes setup opening t stands =
    let says = step_says m setup opening t stands k step (at setup opening t stands) in
    says.1.0 ∙ ap Some (sym ((makes setup opening t stands).event (emission_of says.0) says.1.1 ∙ says.1.2))

-- and one is made
pub event_is_there : (m : MachineRecord) (k : ℕ) (step : Step) (b : Bool) (x : Event) → StandsForSome m → b ≡ false → IsStepAt m k step
    → WhereStands m (λ setup opening t. MakesAnswer step.agent step.cause (agent_answer setup opening step.agent step.cause (events_of step.agent t)) b x) → ⊥
event_is_there m k step b x some none at makes =
    let stands = some.stands in
    let says = step_says m m.setup some.opening some.t stands k step (at m.setup some.opening some.t stands) in
    let made : b ≡ true = (makes m.setup some.opening some.t stands).makes_one (emission_of says.0) says.1.1 in
    false≢true (sym none ∙ made)
