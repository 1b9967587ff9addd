-- The worked trace 'Filter of one entry': one host loads two lines under a filter of one entry. Lists of events are oldest first.
use Rattle.std.specs.Prelude.{List, [], reverse, ◌++◌, ◌∷◌, ◌≡◌}
use Rattle.cxl_message.specs.declared.channels.Channel.{Channel}
use Rattle.cxl_message.specs.declared.events.Event.{Event}
use Rattle.cxl_message.specs.Script.{ScriptValue}
use Rattle.cxl_message.specs.Setup.{Configuration}
use Rattle.coherence_model.specs.Driven.{driven_trace}
use Rattle.worked_runs.specs.Beginnings.{load_and_credits}
use Rattle.worked_runs.specs.Vocabulary.{answer, begin, cmp_e, credit, dev, dev_sends, dev_sends_two, evict, finish, give_back, host, host_commits, host_sends, load, mem_data, read_shared, rsp_invalid, script_of, setup_of, snoop, snp_inv, start, take, zeros}

-- its setup
abbrev pub filter_of_one_entry_setup : Configuration
filter_of_one_entry_setup = setup_of 1 2 1 2 2 2 (0 ∷ [])

-- its script: one host loads two lines under a filter of one entry
abbrev pub filter_of_one_entry_script : ScriptValue
filter_of_one_entry_script = script_of filter_of_one_entry_setup ((load 0 ∷ load 1 ∷ []) ∷ []) []

-- its events
abbrev pub filter_of_one_entry_events : List Event
filter_of_one_entry_events =
    load_and_credits
    ++ host_sends 0 (begin 0 1 (load 1)) (read_shared 0 1)
    ∷ dev (take 0 (read_shared 0 1))
    ∷ dev (evict 0 0)
    ∷ dev_sends (snoop 0 0) 0 (snp_inv 0)
    ∷ host 0 (take 0 (snp_inv 0))
    ∷ host_sends 0 (answer 0) (rsp_invalid 0 0)
    ∷ dev (take 0 (rsp_invalid 0 0))
    ∷ host_sends 0 (give_back Channel.BiSnp) (credit Channel.BiSnp)
    ∷ dev (take 0 (credit Channel.BiSnp))
    ∷ dev (finish 0)
    ∷ dev (start 0 0)
    ∷ dev_sends_two (finish 1) 0 (cmp_e 0) (mem_data 0 zeros)
    ∷ host 0 (take 0 (cmp_e 0))
    ∷ host_commits 0 (take 0 (mem_data 0 zeros)) 0 1 (load 1) zeros
    ∷ []

-- the driven trace of the script is this list of events
abbrev pub FilterOfOneEntryIsDriven : Type 0
FilterOfOneEntryIsDriven = reverse (driven_trace filter_of_one_entry_script) ≡ filter_of_one_entry_events
