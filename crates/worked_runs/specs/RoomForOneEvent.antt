-- The worked trace 'Room for one event': one host loads line 0, and each agent has room for one event. Lists of events are oldest first.
use Rattle.std.specs.Prelude.{List, [], reverse, ◌∷◌, ◌≡◌}
use Rattle.cxl_message.specs.declared.events.Event.{Event}
use Rattle.cxl_message.specs.Script.{ScriptValue}
use Rattle.cxl_message.specs.Setup.{Configuration}
use Rattle.coherence_model.specs.Driven.{serial_trace}
use Rattle.worked_runs.specs.Vocabulary.{begin, dev, host_sends, load, read_shared, script_of, setup_of, take}

-- its setup
abbrev pub room_for_one_event_setup : Configuration
room_for_one_event_setup = setup_of 1 4 4 4 2 2 (0 ∷ [])

-- its script: one host loads line 0, and each agent has room for one event
abbrev pub room_for_one_event_script : ScriptValue
room_for_one_event_script = record (script_of room_for_one_event_setup ((load 0 ∷ []) ∷ []) []) { room = 1 }

-- its events
abbrev pub room_for_one_event_events : List Event
room_for_one_event_events =
    host_sends 0 (begin 0 0 (load 0)) (read_shared 0 0)
    ∷ dev (take 0 (read_shared 0 0))
    ∷ []

-- the serial trace of the script is this list of events
abbrev pub RoomForOneEventIsSerial : Type 0
RoomForOneEventIsSerial = reverse (serial_trace room_for_one_event_script) ≡ room_for_one_event_events
