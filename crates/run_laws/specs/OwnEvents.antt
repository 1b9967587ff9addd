-- Laws of an agent's own events where a trace goes on, and of the agents of a run. What comes later stands in front.
use Rattle.std.specs.Prelude.{IsTrue, List, ℕ, ◌++◌, ◌||◌, ◌≡◌}
use Rattle.std.specs.List.{list_all}
use Rattle.cxl_message.specs.declared.events.Event.{Event}
use Rattle.cxl_message.specs.declared.identifiers.Bytes64.{Bytes64}
use Rattle.cxl_message.specs.declared.identifiers.Line.{Line}
use Rattle.cxl_message.specs.Setup.{Configuration}
use Rattle.coherence_model.specs.Fitting.{is_device, is_host}
use Rattle.coherence_model.specs.Runs.{IsRun}
use Rattle.coherence_model.specs.Traces.{events_of, history, numbered_events_of}
use Rattle.run_laws.specs.Laws.{AreForeign}

-- an agent's events in a trace that went on are its later events, and then its earlier ones
abbrev pub EventsOfAppend : Type 0
EventsOfAppend = (g : ℕ) (later past : List Event) → events_of g (later ++ past) ≡ events_of g later ++ events_of g past

-- the commits of a trace that went on are the later commits, and then the earlier ones
abbrev pub HistoryOfAppend : Type 0
HistoryOfAppend = (later past : List Event) → history (later ++ past) ≡ history later ++ history past

-- other agents' events leave an agent's numbered events as they were
abbrev pub OthersLeaveNumbers : Type 0
OthersLeaveNumbers = (g : ℕ) (later past : List Event) → AreForeign g later → numbered_events_of g (later ++ past) ≡ numbered_events_of g past

-- where an agent's events are as they were, only other agents' events came
abbrev pub SameOwnMeansOthers : Type 0
SameOwnMeansOthers = (g : ℕ) (later past : List Event) → events_of g (later ++ past) ≡ events_of g past → AreForeign g later

-- and where its numbered events are
abbrev pub SameNumbersMeanOthers : Type 0
SameNumbersMeanOthers = (g : ℕ) (later past : List Event) → numbered_events_of g (later ++ past) ≡ numbered_events_of g past → AreForeign g later

-- the agent of each event of a run is the device or a host of the setup
abbrev pub RunHasAgents : Type 0
RunHasAgents =
    (setup : Configuration) (opening : List (Line × Bytes64)) (t : List Event)
    → IsRun setup opening t → IsTrue (list_all (λ e. is_device e.agent || is_host setup e.agent) t)
