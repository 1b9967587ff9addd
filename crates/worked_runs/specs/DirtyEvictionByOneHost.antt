-- The worked trace 'Dirty eviction by one host': a host with one way stores a word to line 0 and then loads line 1. Lists of events are oldest first.
use Rattle.std.specs.Prelude.{List, [], reverse, ◌++◌, ◌∷◌, ◌≡◌}
use Rattle.cxl_message.specs.declared.channels.Channel.{Channel}
use Rattle.cxl_message.specs.declared.events.Event.{Event}
use Rattle.cxl_message.specs.Script.{ScriptValue}
use Rattle.cxl_message.specs.Setup.{Configuration}
use Rattle.coherence_model.specs.Driven.{driven_trace}
use Rattle.worked_runs.specs.Beginnings.{store_and_credits}
use Rattle.worked_runs.specs.Vocabulary.{begin, cmp, cmp_e, credit, dev, dev_sends, dev_sends_two, finish, give_back, host, host_commits, host_sends, host_sends_two, load, mem_data, one_word, read_shared, script_of, serve, setup_of, start, take, word, write_invalid, zeros}

-- its setup
abbrev pub dirty_eviction_by_one_host_setup : Configuration
dirty_eviction_by_one_host_setup = setup_of 1 2 2 1 2 2 (0 ∷ [])

-- its script: a host with one way stores a word to line 0 and then loads line 1
abbrev pub dirty_eviction_by_one_host_script : ScriptValue
dirty_eviction_by_one_host_script = script_of dirty_eviction_by_one_host_setup ((word 0 0 1 ∷ load 1 ∷ []) ∷ []) []

-- its events
abbrev pub dirty_eviction_by_one_host_events : List Event
dirty_eviction_by_one_host_events =
    store_and_credits
    ++ host_sends_two 0 (begin 0 1 (load 1)) (write_invalid 0 0 (one_word 1)) (read_shared 1 1)
    ∷ dev (take 0 (read_shared 1 1))
    ∷ dev (take 0 (write_invalid 0 0 (one_word 1)))
    ∷ dev_sends (serve 0 0) 0 (cmp 0)
    ∷ host 0 (take 0 (cmp 0))
    ∷ host_sends 0 (give_back Channel.Ndr) (credit Channel.Ndr)
    ∷ dev (take 0 (credit Channel.Ndr))
    ∷ dev (start 0 1)
    ∷ dev_sends_two (finish 1) 0 (cmp_e 1) (mem_data 1 zeros)
    ∷ host 0 (take 0 (cmp_e 1))
    ∷ host_commits 0 (take 0 (mem_data 1 zeros)) 0 1 (load 1) zeros
    ∷ []

-- the driven trace of the script is this list of events
abbrev pub DirtyEvictionByOneHostIsDriven : Type 0
DirtyEvictionByOneHostIsDriven = reverse (driven_trace dirty_eviction_by_one_host_script) ≡ dirty_eviction_by_one_host_events
