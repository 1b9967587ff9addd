-- The worked trace 'Store over two shared copies': two hosts load line 0, and then the first stores a word to it. Lists of events are oldest first.
use Rattle.std.specs.Prelude.{List, [], reverse, ◌++◌, ◌∷◌, ◌≡◌}
use Rattle.cxl_message.specs.declared.channels.Channel.{Channel}
use Rattle.cxl_message.specs.declared.events.Event.{Event}
use Rattle.cxl_message.specs.Script.{ScriptValue}
use Rattle.cxl_message.specs.Setup.{Configuration}
use Rattle.coherence_model.specs.Driven.{driven_trace}
use Rattle.worked_runs.specs.Beginnings.{sharing_and_credits}
use Rattle.worked_runs.specs.Vocabulary.{answer, begin, cmp_e, credit, dev, dev_sends, dev_sends_two, finish, give_back, host, host_commits, host_sends, load, mem_data, one_word, read_any, rsp_invalid, script_of, setup_of, snoop, snp_inv, start, take, word, zeros}

-- its setup
abbrev pub store_over_two_shared_copies_setup : Configuration
store_over_two_shared_copies_setup = setup_of 2 4 4 2 2 2 (0 ∷ 1 ∷ 0 ∷ [])

-- its script: two hosts load line 0, and then the first stores a word to it
abbrev pub store_over_two_shared_copies_script : ScriptValue
store_over_two_shared_copies_script = script_of store_over_two_shared_copies_setup ((load 0 ∷ []) ∷ (load 0 ∷ []) ∷ (word 0 0 1 ∷ []) ∷ []) []

-- its events
abbrev pub store_over_two_shared_copies_events : List Event
store_over_two_shared_copies_events =
    sharing_and_credits
    ++ host_sends 0 (begin 2 0 (word 0 0 1)) (read_any 0 0)
    ∷ dev (take 0 (read_any 0 0))
    ∷ dev (start 0 0)
    ∷ dev_sends (snoop 1 0) 1 (snp_inv 0)
    ∷ host 1 (take 1 (snp_inv 0))
    ∷ host_sends 1 (answer 0) (rsp_invalid 0 0)
    ∷ dev (take 1 (rsp_invalid 0 0))
    ∷ host_sends 1 (give_back Channel.BiSnp) (credit Channel.BiSnp)
    ∷ dev (take 1 (credit Channel.BiSnp))
    ∷ dev_sends_two (finish 0) 0 (cmp_e 0) (mem_data 0 zeros)
    ∷ host 0 (take 0 (cmp_e 0))
    ∷ host_commits 0 (take 0 (mem_data 0 zeros)) 2 0 (word 0 0 1) (one_word 1)
    ∷ []

-- the driven trace of the script is this list of events
abbrev pub StoreOverTwoSharedCopiesIsDriven : Type 0
StoreOverTwoSharedCopiesIsDriven = reverse (driven_trace store_over_two_shared_copies_script) ≡ store_over_two_shared_copies_events
