-- Which choice a pick takes. Every rule here is an own rule.
use Rattle.std.specs.Prelude.{List, None, Option, Some, false, flat_map, length, slice_get, ℕ, ◌%◌, ◌<◌, ◌∷◌, ◌≡◌}
use Rattle.cxl_message.specs.declared.events.Event.{Event}
use Rattle.cxl_message.specs.Script.{ScriptValue}
use Rattle.choice_laws.specs.Answered.{next_answer}
use Rattle.coherence_model.specs.Choices.{Stream, choices, is_done, streams_of}
use Rattle.coherence_model.specs.Next.{next_steps}
use Rattle.machine.specs.Stands.{MachineRecord, StandsFor}
use Rattle.machine.specs.Steps.{IsChoice}
use Rattle.step_driver.specs.Driver.{IsKept, IsStreamOf}
use Rattle.step_driver.specs.declared.table.StreamTable.{StreamTable}
use Rattle.step_driver.specs.declared.choosing.Choice.{Choice}

-- the choice that a pick takes: that of its number modulo their count
abbrev pub chosen : ScriptValue → ℕ → List Event → Option Event
chosen script pick t = slice_get (choices script t) (pick % length (choices script t))

-- what streams are offered, by the streams' numbers
abbrev pub offers : ScriptValue → List Event → List Event
offers script t = flat_map (next_answer script t) (streams_of script)

-- an event, if there is one, is what the stream of this number is offered
pub record IsOfferOf (script : ScriptValue) (t : List Event) (o : Option Event) (k : ℕ) : Type 0 where
  pub below : k < length script.setup.streams
  pub is : (y : Stream) → IsStreamOf script y → y.number ≡ k → (length (next_answer script t y) ≡ 1) × (o ≡ slice_get (next_answer script t y) 0)

-- the stream of this number is offered what stands at a place among the offers; or none stands there
abbrev pub IsOfferAt : ScriptValue → List Event → Option Event → Option ℕ → Type 0
IsOfferAt script t o None = o ≡ None
IsOfferAt script t o (Some s) = IsOfferOf script t o s

-- what is chosen is a next step by its number, or what a stream is offered; or nothing can be chosen
abbrev pub IsChosen : ScriptValue → MachineRecord → List Event → ℕ → Option Choice → Type 0
IsChosen script machine t pick None = chosen script pick t ≡ None
IsChosen script machine t pick (Some (Choice.Step k)) = IsChoice machine k × (chosen script pick t ≡ slice_get (next_steps script.setup script.opening t) k)
IsChosen script machine t pick (Some (Choice.Offer s)) = IsOfferOf script t (chosen script pick t) s

-- the choice of a pick after a trace was made
pub record IsTaken (script : ScriptValue) (machine : MachineRecord) (pick : ℕ) (t : List Event) (e : Event) : Type 0 where
  pub is : chosen script pick t ≡ Some e
  pub stands : StandsFor machine script.setup script.opening (e ∷ t)

-- a turn made the choice of a pick after a trace that wasn't done, and keeps how far the driving is with it
pub record IsTurned (script : ScriptValue) (machine : MachineRecord) (table : StreamTable) (pick : ℕ) (t : List Event) (e : Event) : Type 0 where
  pub more : is_done script t ≡ false
  pub is : chosen script pick t ≡ Some e
  pub kept : IsKept script machine table (e ∷ t)
