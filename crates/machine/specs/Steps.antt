-- The next steps as the machine counts and picks them. All of it is an own rule.
use Rattle.std.specs.Prelude.{List, Some, flat_map, length, slice_get, ℕ, ◌<◌, ◌≡◌}
use Rattle.cxl_message.specs.declared.events.Cause.{Cause}
use Rattle.cxl_message.specs.declared.events.Event.{Event}
use Rattle.cxl_message.specs.Lists.{below}
use Rattle.cxl_message.specs.Setup.{Configuration}
use Rattle.coherence_model.specs.Next.{next_steps}
use Rattle.next_laws.specs.Told.{host_acts_told, steps_told, takes_told}
use Rattle.machine.specs.declared.steps.Step.{Step}
use Rattle.machine.specs.Stands.{MachineRecord, WhereStands}

-- the agent and the cause of a step
abbrev pub parts_of : Step → ℕ × Cause
parts_of step = (step.agent, step.cause)

-- the takes that are told for the first n hosts
abbrev pub takes_below : List Event → ℕ → List (ℕ × Cause)
takes_below t n = flat_map (takes_told t) (below n)

-- the acts that the first n hosts tell
abbrev pub host_acts_below : Configuration → List Event → ℕ → List (ℕ × Cause)
host_acts_below setup t n = flat_map (host_acts_told setup t) (below n)

-- k is a number of one of the next steps, after each run that the machine stands for
abbrev pub IsChoice : MachineRecord → ℕ → Type 0
IsChoice machine k = WhereStands machine (λ setup opening t. k < length (next_steps setup opening t))

-- the step is the one of a number among those that are told
abbrev pub IsStepAt : MachineRecord → ℕ → Step → Type 0
IsStepAt machine k step = WhereStands machine (λ setup opening t. Some (parts_of step) ≡ slice_get (steps_told setup opening t) k)
