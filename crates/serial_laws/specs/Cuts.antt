-- What is cut off a trace whose events have no room, and the way to the serial trace.
use Rattle.std.specs.Prelude.{List, [], length, ℕ, ◌++◌, ◌∷◌, ◌≡◌, ◌≤◌}
use Rattle.cxl_message.specs.declared.events.Event.{Event}
use Rattle.cxl_message.specs.Script.{ScriptValue}
use Rattle.coherence_model.specs.Driven.{without_picks}
use Rattle.coherence_model.specs.Traces.{events_of}
use Rattle.driven_laws.specs.Reached.{IsOnTheWay}

-- what was cut off a trace: nothing, or events the first of which has no room, since its agent has as many before it as there is room for
pub data CutOff (room : ℕ) (t later : List Event) : Type 0 where
  Nothing : later ≡ [] → CutOff room t later
  NoRoom : (e : Event) (more : List Event) → later ≡ more ++ e ∷ [] → room ≤ length (events_of e.agent t) → CutOff room t later

-- a trace is a front of a whole one, cut before the first event that has no room
pub record IsCut (room : ℕ) (whole t : List Event) : Type 0 where
  pub later : List Event
  pub all : whole ≡ later ++ t
  pub off : CutOff room t later

-- each agent has at most so many events in a trace
abbrev pub HasRoom : ℕ → List Event → Type 0
HasRoom room t = (g : ℕ) → length (events_of g t) ≤ room

-- some agent has as many events in a trace as there is room for
abbrev pub SomeIsFull : ℕ → List Event → Type 0
SomeIsFull room t = (g : ℕ) × (length (events_of g t) ≡ room)

-- a trace is on the way to the driven one without picks, and each of its events had room
pub record IsOnSerialWay (script : ScriptValue) (t : List Event) : Type 0 where
  pub way : IsOnTheWay (without_picks script) [] t
  pub room : HasRoom script.room t
