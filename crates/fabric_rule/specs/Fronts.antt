-- How traces go on from one another. Traces have their newest event first, so what comes later stands in front.
use Rattle.std.specs.Prelude.{List, if◌then◌else◌, length, nat_lt, ◌++◌, ◌∷◌, ◌≡◌, ℕ}
use Rattle.cxl_message.specs.declared.events.Event.{Event}
use Rattle.coherence_model.specs.Traces.{numbered_events_of}
use Rattle.run_laws.specs.Laws.{AreForeign}

-- a trace goes on from another one by later events: the other is a prefix of it, counted from the oldest event (own rule)
abbrev pub GoesOnFrom : List Event → List Event → Type 0
GoesOnFrom past t = (later : List Event) × (t ≡ later ++ past)

-- a trace goes on from another one, and no later event is the agent's (own rule)
abbrev pub GoesOnWithout : ℕ → List Event → List Event → Type 0
GoesOnWithout g past t = (later : List Event) × (t ≡ later ++ past) × AreForeign g later

-- a trace goes on from another one and ends with the event, and no event between is the agent's (own rule)
pub record EndsWith (g : ℕ) (past : List Event) (e : Event) (t : List Event) : Type 0 where
  pub between : List Event
  pub seen : t ≡ e ∷ (between ++ past)
  pub foreign : AreForeign g between

-- a trace has all of an agent's events that a run has, with their numbers, and the run goes on from it (own rule)
pub record HasAllOf (g : ℕ) (seen run : List Event) : Type 0 where
  pub front : GoesOnFrom seen run
  pub mine : numbered_events_of g run ≡ numbered_events_of g seen

-- the longer of two traces, and the first of two of one length (own rule)
abbrev pub longer : List Event → List Event → List Event
longer s t = if nat_lt (length s) (length t) then t else s
