-- What the queues hold after an event of a run.
use Rattle.std.specs.Prelude.{List, ◌∷◌}
use Rattle.cxl_message.specs.declared.events.Event.{Event}
use Rattle.cxl_message.specs.declared.identifiers.Bytes64.{Bytes64}
use Rattle.cxl_message.specs.declared.identifiers.Line.{Line}
use Rattle.cxl_message.specs.Setup.{Configuration}
use Rattle.coherence_model.specs.Runs.{IsRun}
use Rattle.link_queues.specs.Links.{HasRoomFor, HoldsFlight, LinkRecord, TakesFromHost, after_cause, after_sends}

-- a fact holds of queues that hold the messages in flight of a trace, and of an event with which the trace is a run
abbrev pub AtEachEvent : (LinkRecord → Configuration → List Event → Event → Type 0) → Type 0
AtEachEvent Fact =
    (links : LinkRecord) (setup : Configuration) (opening : List (Line × Bytes64)) (t : List Event) (e : Event)
    → HoldsFlight links setup t → IsRun setup opening (e ∷ t) → Fact links setup t e

-- what it takes is taken from a host that is there
abbrev pub TakesAreThere : Type 0
TakesAreThere = AtEachEvent (λ links setup t e. TakesFromHost links e.cause)

-- there is room for what it sends
abbrev pub SendsHaveRoom : Type 0
SendsHaveRoom = AtEachEvent (λ links setup t e. HasRoomFor (after_cause e.cause links) e.sends)

-- and after it the queues hold the messages in flight
abbrev pub FlightGoesOn : Type 0
FlightGoesOn = AtEachEvent (λ links setup t e. HoldsFlight (after_sends e.sends (after_cause e.cause links)) setup (e ∷ t))
