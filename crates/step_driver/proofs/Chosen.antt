-- The choice of a number is the next step there, or past the next steps what a stream is offered.
use Rattle.std.proofs.Common.{List, None, [], ap, arith, length, length-append, refl, sym, ℕ, ◌++◌, ◌+◌, ◌-◌, ◌<◌, ◌≡◌, ◌≤◌, ◌∙◌, ◌∷◌}
use Rattle.std.specs.Prelude.{slice_get, ◌%◌}
use Rattle.std.proofs.Math.Nat.{zero-mod}
use Rattle.cxl_message.specs.declared.events.Event.{Event}
use Rattle.cxl_message.specs.Script.{ScriptValue}
use Rattle.bound_laws.proofs.Few.{next_steps_are_few}
use Rattle.choice_laws.proofs.Choices.{choices_are_answered}
use Rattle.coherence_model.specs.Choices.{choices}
use Rattle.coherence_model.specs.Next.{next_steps}
use Rattle.driven_laws.specs.Scripts.{IsDrivable}
use Rattle.link_queues.proofs.Parts.{get_left, get_right}
use Rattle.machine.specs.Stands.{MachineRecord, WhereStands}
use Rattle.machine.specs.Steps.{IsChoice}
use Rattle.step_driver.specs.declared.table.StreamTable.{StreamTable}
use Rattle.step_driver.specs.Driver.{IsKept}
use Rattle.step_driver.specs.Picks.{chosen, offers}

-- the next steps of a script after a trace
abbrev pub steps_of : ScriptValue → List Event → List Event
steps_of script t = next_steps script.setup script.opening t

-- how many choices there are
pub choice_count :
    (script : ScriptValue) → IsDrivable script → (t : List Event) (steps count : ℕ) → steps ≡ length (steps_of script t) → count ≡ length (offers script t)
    → steps + count ≡ length (choices script t)
choice_count script drivable t steps count s o =
    let all = ap length (choices_are_answered script drivable t) ∙ length-append (steps_of script t) (offers script t) in
    omega (arith, s, o, all)

-- the choice at a number of a next step
step_there : (script : ScriptValue) → IsDrivable script → (t : List Event) (k : ℕ) → k < length (steps_of script t) → slice_get (choices script t) k ≡ slice_get (steps_of script t) k
step_there script drivable t k low = ap (λ xs. slice_get xs k) (choices_are_answered script drivable t) ∙ get_left (steps_of script t) (offers script t) k low

-- and past those
offer_there :
    (script : ScriptValue) → IsDrivable script → (t : List Event) (k steps : ℕ) → steps ≡ length (steps_of script t) → steps ≤ k → slice_get (choices script t) k ≡ slice_get (offers script t) (k - steps)
offer_there script drivable t k steps count past =
    let e : length (steps_of script t) + (k - steps) ≡ k = omega (arith, count, past) in
    ap (λ xs. slice_get xs k) (choices_are_answered script drivable t) ∙ ap (slice_get (steps_of script t ++ offers script t)) (sym e)
    ∙ get_right (steps_of script t) (offers script t) (k - steps)

-- the number of a pick, by how many choices there are
pub by_count : (script : ScriptValue) (t : List Event) (pick all : ℕ) → all ≡ length (choices script t) → chosen script pick t ≡ slice_get (choices script t) (pick % all)
by_count script t pick all is = ap (λ n. slice_get (choices script t) (pick % n)) (sym is)

-- of no choices none is taken
no_choice : (cs : List Event) (p : ℕ) → length cs ≡ 0 → slice_get cs (p % length cs) ≡ None
no_choice [] p none = refl
no_choice (c ∷ cs) p none = absurd (omega (arith, none))

pub nothing_is_chosen : (script : ScriptValue) (t : List Event) (pick all : ℕ) → all ≡ length (choices script t) → all ≡ 0 → chosen script pick t ≡ None
nothing_is_chosen script t pick all is none = no_choice (choices script t) pick (sym is ∙ none)

-- the choice of the pick 0 is the first next step, where there is one
pub first_is_chosen : (script : ScriptValue) → IsDrivable script → (t : List Event) (pick : ℕ) → pick ≡ 0 → 0 < length (steps_of script t) → chosen script pick t ≡ slice_get (steps_of script t) 0
first_is_chosen script drivable t pick none some =
    ap (λ q. slice_get (choices script t) (q % length (choices script t))) none ∙ ap (slice_get (choices script t)) (zero-mod (length (choices script t))) ∙ step_there script drivable t 0 some

pub step_is_chosen :
    (script : ScriptValue) → IsDrivable script → (t : List Event) (pick all steps : ℕ) → all ≡ length (choices script t) → steps ≡ length (steps_of script t) → pick % all < steps
    → chosen script pick t ≡ slice_get (steps_of script t) (pick % all)
step_is_chosen script drivable t pick all steps is count low = by_count script t pick all is ∙ step_there script drivable t (pick % all) (omega (arith, count, low))

pub offer_is_chosen :
    (script : ScriptValue) → IsDrivable script → (t : List Event) (pick all steps : ℕ) → all ≡ length (choices script t) → steps ≡ length (steps_of script t) → steps ≤ pick % all
    → chosen script pick t ≡ slice_get (offers script t) (pick % all - steps)
offer_is_chosen script drivable t pick all steps is count past = by_count script t pick all is ∙ offer_there script drivable t (pick % all) steps count past

-- the next steps are few
pub steps_are_few :
    (script : ScriptValue) (machine : MachineRecord) (table : StreamTable) (steps : ℕ) → ((t : List Event) × IsKept script machine table t)
    → WhereStands machine (λ setup opening t. steps ≡ length (next_steps setup opening t)) → steps ≤ 1200000
steps_are_few script machine table steps kept is =
    let s = kept.1.stands in
    let same = is script.setup script.opening kept.0 s in
    let few = next_steps_are_few script.setup script.opening s.within kept.0 s.run in
    omega (arith, same, few)

-- a number below theirs is one of theirs
pub below_is_choice : (machine : MachineRecord) (steps k : ℕ) → WhereStands machine (λ setup opening t. steps ≡ length (next_steps setup opening t)) → k < steps → IsChoice machine k
below_is_choice machine steps k is low setup opening t stands = let same = is setup opening t stands in omega (arith, same, low)
