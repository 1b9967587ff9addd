-- The worked trace 'Silent upgrade': one host loads line 0 and then stores a word to it. Lists of events are oldest first.
use Rattle.std.specs.Prelude.{List, [], reverse, ◌++◌, ◌∷◌, ◌≡◌}
use Rattle.cxl_message.specs.declared.events.Event.{Event}
use Rattle.cxl_message.specs.Script.{ScriptValue}
use Rattle.cxl_message.specs.Setup.{Configuration}
use Rattle.coherence_model.specs.Driven.{driven_trace}
use Rattle.worked_runs.specs.Beginnings.{load_and_credits}
use Rattle.worked_runs.specs.Vocabulary.{host_hits, load, one_word, script_of, setup_of, word}

-- its setup
abbrev pub silent_upgrade_setup : Configuration
silent_upgrade_setup = setup_of 1 4 4 4 2 2 (0 ∷ [])

-- its script: one host loads line 0 and then stores a word to it
abbrev pub silent_upgrade_script : ScriptValue
silent_upgrade_script = script_of silent_upgrade_setup ((load 0 ∷ word 0 0 0xff ∷ []) ∷ []) []

-- its events
abbrev pub silent_upgrade_events : List Event
silent_upgrade_events =
    load_and_credits
    ++ host_hits 0 0 1 (word 0 0 0xff) (one_word 0xff)
    ∷ []

-- the driven trace of the script is this list of events
abbrev pub SilentUpgradeIsDriven : Type 0
SilentUpgradeIsDriven = reverse (driven_trace silent_upgrade_script) ≡ silent_upgrade_events
