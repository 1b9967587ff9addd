-- The worked trace 'An opening': one host loads line 1, which memory opens with. Lists of events are oldest first.
use Rattle.std.specs.Prelude.{List, [], reverse, ◌∷◌, ◌≡◌}
use Rattle.cxl_message.specs.declared.events.Event.{Event}
use Rattle.cxl_message.specs.Script.{ScriptValue}
use Rattle.cxl_message.specs.Setup.{Configuration}
use Rattle.coherence_model.specs.Driven.{driven_trace}
use Rattle.worked_runs.specs.Vocabulary.{begin, cmp_e, dev, dev_sends_two, filled, finish, host, host_commits, host_sends, line, load, mem_data, read_shared, script_of, setup_of, start, take}

-- its setup
abbrev pub an_opening_setup : Configuration
an_opening_setup = setup_of 1 4 4 4 2 2 (0 ∷ [])

-- its script: one host loads line 1, which memory opens with
abbrev pub an_opening_script : ScriptValue
an_opening_script = record (script_of an_opening_setup ((load 1 ∷ []) ∷ []) []) { opening = (line 1, filled 0xab) ∷ [] }

-- its events
abbrev pub an_opening_events : List Event
an_opening_events =
    host_sends 0 (begin 0 0 (load 1)) (read_shared 0 1)
    ∷ dev (take 0 (read_shared 0 1))
    ∷ dev (start 0 0)
    ∷ dev_sends_two (finish 1) 0 (cmp_e 0) (mem_data 0 (filled 0xab))
    ∷ host 0 (take 0 (cmp_e 0))
    ∷ host_commits 0 (take 0 (mem_data 0 (filled 0xab))) 0 0 (load 1) (filled 0xab)
    ∷ []

-- the driven trace of the script is this list of events
abbrev pub AnOpeningIsDriven : Type 0
AnOpeningIsDriven = reverse (driven_trace an_opening_script) ≡ an_opening_events
