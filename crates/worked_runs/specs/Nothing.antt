-- The worked trace 'Nothing': no stream and no operation. Lists of events are oldest first.
use Rattle.std.specs.Prelude.{List, [], reverse, ◌≡◌}
use Rattle.cxl_message.specs.declared.events.Event.{Event}
use Rattle.cxl_message.specs.Script.{ScriptValue}
use Rattle.cxl_message.specs.Setup.{Configuration}
use Rattle.coherence_model.specs.Driven.{driven_trace}
use Rattle.worked_runs.specs.Vocabulary.{script_of, setup_of}

-- its setup
abbrev pub nothing_setup : Configuration
nothing_setup = setup_of 1 1 1 1 2 2 []

-- its script: no stream and no operation
abbrev pub nothing_script : ScriptValue
nothing_script = script_of nothing_setup [] []

-- its events
abbrev pub nothing_events : List Event
nothing_events =
    []

-- the driven trace of the script is this list of events
abbrev pub NothingIsDriven : Type 0
NothingIsDriven = reverse (driven_trace nothing_script) ≡ nothing_events
