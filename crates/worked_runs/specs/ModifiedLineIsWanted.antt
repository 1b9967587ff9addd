-- The worked trace 'Modified line is wanted': two hosts store a word to line 0, one after the other. Lists of events are oldest first.
use Rattle.std.specs.Prelude.{List, [], reverse, ◌++◌, ◌∷◌, ◌≡◌}
use Rattle.cxl_message.specs.declared.channels.Channel.{Channel}
use Rattle.cxl_message.specs.declared.events.Event.{Event}
use Rattle.cxl_message.specs.Script.{ScriptValue}
use Rattle.cxl_message.specs.Setup.{Configuration}
use Rattle.coherence_model.specs.Driven.{driven_trace}
use Rattle.worked_runs.specs.Beginnings.{store_and_credits}
use Rattle.worked_runs.specs.Vocabulary.{answer, begin, cmp, cmp_e, credit, dev, dev_sends, dev_sends_two, finish, give_back, host, host_commits, host_sends, mem_data, one_word, read_any, rsp_invalid, script_of, serve, setup_of, snoop, snp_inv, start, take, two_words, word, write_back, write_invalid}

-- its setup
abbrev pub modified_line_is_wanted_setup : Configuration
modified_line_is_wanted_setup = setup_of 2 4 4 2 2 2 (0 ∷ 1 ∷ [])

-- its script: two hosts store a word to line 0, one after the other
abbrev pub modified_line_is_wanted_script : ScriptValue
modified_line_is_wanted_script = script_of modified_line_is_wanted_setup ((word 0 0 1 ∷ []) ∷ (word 0 1 2 ∷ []) ∷ []) []

-- its events
abbrev pub modified_line_is_wanted_events : List Event
modified_line_is_wanted_events =
    store_and_credits
    ++ host_sends 1 (begin 1 0 (word 0 1 2)) (read_any 0 0)
    ∷ dev (take 1 (read_any 0 0))
    ∷ dev (start 1 0)
    ∷ dev_sends (snoop 0 0) 0 (snp_inv 0)
    ∷ host 0 (take 0 (snp_inv 0))
    ∷ host_sends 0 (write_back 0) (write_invalid 2 0 (one_word 1))
    ∷ dev (take 0 (write_invalid 2 0 (one_word 1)))
    ∷ dev_sends (serve 0 2) 0 (cmp 2)
    ∷ host 0 (take 0 (cmp 2))
    ∷ host_sends 0 (answer 0) (rsp_invalid 0 0)
    ∷ dev (take 0 (rsp_invalid 0 0))
    ∷ host_sends 0 (give_back Channel.Ndr) (credit Channel.Ndr)
    ∷ dev (take 0 (credit Channel.Ndr))
    ∷ host_sends 0 (give_back Channel.BiSnp) (credit Channel.BiSnp)
    ∷ dev (take 0 (credit Channel.BiSnp))
    ∷ dev_sends_two (finish 0) 1 (cmp_e 0) (mem_data 0 (one_word 1))
    ∷ host 1 (take 1 (cmp_e 0))
    ∷ host_commits 1 (take 1 (mem_data 0 (one_word 1))) 1 0 (word 0 1 2) (two_words 1 2)
    ∷ []

-- the driven trace of the script is this list of events
abbrev pub ModifiedLineIsWantedIsDriven : Type 0
ModifiedLineIsWantedIsDriven = reverse (driven_trace modified_line_is_wanted_script) ≡ modified_line_is_wanted_events
