-- The worked trace 'One load': one host loads line 0. Lists of events are oldest first.
use Rattle.std.specs.Prelude.{List, [], reverse, ◌∷◌, ◌≡◌}
use Rattle.cxl_message.specs.declared.events.Event.{Event}
use Rattle.cxl_message.specs.Script.{ScriptValue}
use Rattle.cxl_message.specs.Setup.{Configuration}
use Rattle.coherence_model.specs.Driven.{driven_trace}
use Rattle.worked_runs.specs.Vocabulary.{begin, cmp_e, dev, dev_sends_two, finish, host, host_commits, host_sends, load, mem_data, read_shared, script_of, setup_of, start, take, zeros}

-- its setup
abbrev pub one_load_setup : Configuration
one_load_setup = setup_of 1 4 4 4 2 2 (0 ∷ [])

-- its script: one host loads line 0
abbrev pub one_load_script : ScriptValue
one_load_script = script_of one_load_setup ((load 0 ∷ []) ∷ []) []

-- its events
abbrev pub one_load_events : List Event
one_load_events =
    host_sends 0 (begin 0 0 (load 0)) (read_shared 0 0)
    ∷ dev (take 0 (read_shared 0 0))
    ∷ dev (start 0 0)
    ∷ dev_sends_two (finish 0) 0 (cmp_e 0) (mem_data 0 zeros)
    ∷ host 0 (take 0 (cmp_e 0))
    ∷ host_commits 0 (take 0 (mem_data 0 zeros)) 0 0 (load 0) zeros
    ∷ []

-- the driven trace of the script is this list of events
abbrev pub OneLoadIsDriven : Type 0
OneLoadIsDriven = reverse (driven_trace one_load_script) ≡ one_load_events

-- the same script with a pick far above the number of choices
abbrev pub picked_load_script : ScriptValue
picked_load_script = script_of one_load_setup ((load 0 ∷ []) ∷ []) (65535 ∷ [])

-- its driven trace is the same: a pick is taken modulo the number of choices
abbrev pub PickedLoadIsDriven : Type 0
PickedLoadIsDriven = reverse (driven_trace picked_load_script) ≡ one_load_events
