-- Laws of these definitions that hold by computation; the laws of every run stand in crates of their own.
use Rattle.std.specs.Prelude.{List, [], is_none, ℕ, ◌≡◌}
use Rattle.cxl_message.specs.declared.events.Event.{Event}
use Rattle.cxl_message.specs.declared.identifiers.Bytes64.{Bytes64}
use Rattle.cxl_message.specs.declared.identifiers.Line.{Line}
use Rattle.cxl_message.specs.Setup.{Configuration}
use Rattle.coherence_model.specs.OwnRuns.{IsOwnRun}
use Rattle.coherence_model.specs.Runs.{IsRun, first_broken, is_allowed}
use Rattle.coherence_model.specs.Traces.{events_of}

-- the empty trace is a run
abbrev pub EmptyTraceIsRun : Type 0
EmptyTraceIsRun = (setup : Configuration) (opening : List (Line × Bytes64)) → IsRun setup opening []

-- an event is allowed exactly where it breaks no rule
abbrev pub AllowedBreaksNoRule : Type 0
AllowedBreaksNoRule =
    (setup : Configuration) (opening : List (Line × Bytes64)) (past : List Event) (e : Event)
    → is_allowed setup opening past e ≡ is_none (first_broken setup opening past e)

-- the events of an agent in a run are its own run
abbrev pub EventsOfRunAreOwnRun : Type 0
EventsOfRunAreOwnRun =
    (setup : Configuration) (opening : List (Line × Bytes64)) (g : ℕ) (t : List Event) → IsRun setup opening t → IsOwnRun setup opening g (events_of g t)
