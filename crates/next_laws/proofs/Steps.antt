-- The next steps are what the queues and the agents tell, and what the agents answer.
use Rattle.std.proofs.Common.{◌≡◌, ℕ, zero, suc, ◌<◌, Bool, false, IsTrue, List, [], ◌∷◌, ◌++◌, map, Some, ◌∙◌, subst, arith}
use Rattle.std.specs.Prelude.{flat_map, slice_get}
use Rattle.std.specs.List.{list_all}
use Rattle.std.proofs.lemmas.Bool.{and_parts, lt-ltb, ne_eqb}
use Rattle.std.proofs.lemmas.Option.{same_Some}
use Rattle.cxl_message.specs.declared.events.Event.{Event}
use Rattle.cxl_message.specs.declared.identifiers.Bytes64.{Bytes64}
use Rattle.cxl_message.specs.declared.identifiers.Line.{Line}
use Rattle.cxl_message.specs.Lists.{below}
use Rattle.cxl_message.specs.Setup.{Configuration, IsWithinLimits}
use Rattle.coherence_model.specs.Fitting.{is_device}
use Rattle.coherence_model.specs.Next.{channels, next_device_acts, next_host_acts, next_steps, next_takes}
use Rattle.coherence_model.specs.Runs.{IsRun, is_allowed}
use Rattle.coherence_model.specs.Traces.{device}
use Rattle.bound_laws.proofs.Joined.{each_below}
use Rattle.step_laws.proofs.Laws.{next_steps_are_allowed}
use Rattle.answer_laws.proofs.Events.{allowed_is_emitted}
use Rattle.next_laws.specs.Laws.{NextStepsAreAnswered, NextStepsAreTold}
use Rattle.next_laws.specs.Told.{host_acts_told, takes_told, told}
use Rattle.next_laws.proofs.Acts.{device_acts_are_told, host_acts_are_told}
use Rattle.next_laws.proofs.Lists.{map_parts, map_three}
use Rattle.next_laws.proofs.Takes.{host_takes_are_told}

-- a host of the setup isn't the device
no_device : (setup : Configuration) (h : ℕ) → IsWithinLimits setup → h < setup.hosts → is_device h ≡ false
no_device setup h limits low = ne_eqb h device (λ same. let few = limits.hosts.1 in omega arith)

pub next_steps_are_told : NextStepsAreTold
next_steps_are_told setup opening limits t run =
    let takes : ℕ → List Event = λ h. flat_map (next_takes setup opening t h) channels in
    map_three told (flat_map takes (below setup.hosts)) (flat_map (next_host_acts setup opening t) (below setup.hosts)) (next_device_acts setup opening t)
    ∙ (λ i.
    map_parts told takes (takes_told t) (below setup.hosts)
    (each_below (λ h. map told (takes h) ≡ takes_told t h) setup.hosts (λ h low. host_takes_are_told setup opening limits t run h (lt-ltb h setup.hosts low))) i
    ++ map_parts told (next_host_acts setup opening t) (host_acts_told setup t) (below setup.hosts)
    (each_below (λ h. map told (next_host_acts setup opening t h) ≡ host_acts_told setup t h) setup.hosts (λ h low. host_acts_are_told setup opening t h (no_device setup h limits low))) i
    ++ device_acts_are_told setup opening t i)

-- what a test over all members says of one
test_at : {A : Type 0} (p : A → Bool) (xs : List A) (k : ℕ) (x : A) → IsTrue (list_all p xs) → slice_get xs k ≡ Some x → IsTrue (p x)
test_at p [] k x all at = cc
test_at p (y ∷ xs) zero x all at = subst (λ z. IsTrue (p z)) (same_Some y x at) (and_parts (p y) (list_all p xs) all).0
test_at p (y ∷ xs) (suc k) x all at = test_at p xs k x (and_parts (p y) (list_all p xs) all).1 at

-- the next step of a number is allowed
pub next_is_allowed :
    (setup : Configuration) (opening : List (Line × Bytes64)) → IsWithinLimits setup → (t : List Event) → IsRun setup opening t → (k : ℕ) (e : Event)
    → slice_get (next_steps setup opening t) k ≡ Some e → IsTrue (is_allowed setup opening t e)
next_is_allowed setup opening limits t run k e at =
    (and_parts (is_allowed setup opening t e) _ (test_at _ (next_steps setup opening t) k e (next_steps_are_allowed setup opening limits t run) at)).0

pub next_steps_are_answered : NextStepsAreAnswered
next_steps_are_answered setup opening limits t run k e at = allowed_is_emitted setup opening t e (next_is_allowed setup opening limits t run k e at)
