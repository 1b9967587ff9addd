-- The worked trace 'Oldest entry is evicted': one host loads three lines of different blocks under a filter of two entries. Lists of events are oldest first.
use Rattle.std.specs.Prelude.{List, [], reverse, ◌++◌, ◌∷◌, ◌≡◌}
use Rattle.cxl_message.specs.declared.channels.Channel.{Channel}
use Rattle.cxl_message.specs.declared.events.Event.{Event}
use Rattle.cxl_message.specs.Script.{ScriptValue}
use Rattle.cxl_message.specs.Setup.{Configuration}
use Rattle.coherence_model.specs.Driven.{driven_trace}
use Rattle.worked_runs.specs.Beginnings.{load_and_credits}
use Rattle.worked_runs.specs.Vocabulary.{answer, begin, cmp_e, credit, dev, dev_sends, dev_sends_two, evict, finish, give_back, give_back_to, host, host_commits, host_sends, load, mem_data, read_shared, rsp_invalid, script_of, setup_of, snoop, snp_inv, start, take, zeros}

-- its setup
abbrev pub oldest_entry_is_evicted_setup : Configuration
oldest_entry_is_evicted_setup = setup_of 1 5 2 5 2 2 (0 ∷ [])

-- its script: one host loads three lines of different blocks under a filter of two entries
abbrev pub oldest_entry_is_evicted_script : ScriptValue
oldest_entry_is_evicted_script = script_of oldest_entry_is_evicted_setup ((load 0 ∷ load 2 ∷ load 4 ∷ []) ∷ []) []

-- its events
abbrev pub oldest_entry_is_evicted_events : List Event
oldest_entry_is_evicted_events =
    load_and_credits
    ++ host_sends 0 (begin 0 1 (load 2)) (read_shared 0 2)
    ∷ dev (take 0 (read_shared 0 2))
    ∷ dev (start 0 0)
    ∷ dev_sends_two (finish 2) 0 (cmp_e 0) (mem_data 0 zeros)
    ∷ host 0 (take 0 (cmp_e 0))
    ∷ host_commits 0 (take 0 (mem_data 0 zeros)) 0 1 (load 2) zeros
    ∷ host_sends 0 (give_back Channel.Ndr) (credit Channel.Ndr)
    ∷ dev (take 0 (credit Channel.Ndr))
    ∷ host_sends 0 (give_back Channel.Drs) (credit Channel.Drs)
    ∷ dev (take 0 (credit Channel.Drs))
    ∷ dev_sends (give_back_to 0 Channel.Req) 0 (credit Channel.Req)
    ∷ host 0 (take 0 (credit Channel.Req))
    ∷ host_sends 0 (begin 0 2 (load 4)) (read_shared 0 4)
    ∷ dev (take 0 (read_shared 0 4))
    ∷ dev (evict 0 0)
    ∷ dev_sends (snoop 0 0) 0 (snp_inv 0)
    ∷ host 0 (take 0 (snp_inv 0))
    ∷ host_sends 0 (answer 0) (rsp_invalid 0 0)
    ∷ dev (take 0 (rsp_invalid 0 0))
    ∷ host_sends 0 (give_back Channel.BiSnp) (credit Channel.BiSnp)
    ∷ dev (take 0 (credit Channel.BiSnp))
    ∷ dev (finish 0)
    ∷ dev (start 0 0)
    ∷ dev_sends_two (finish 4) 0 (cmp_e 0) (mem_data 0 zeros)
    ∷ host 0 (take 0 (cmp_e 0))
    ∷ host_commits 0 (take 0 (mem_data 0 zeros)) 0 2 (load 4) zeros
    ∷ []

-- the driven trace of the script is this list of events
abbrev pub OldestEntryIsEvictedIsDriven : Type 0
OldestEntryIsEvictedIsDriven = reverse (driven_trace oldest_entry_is_evicted_script) ≡ oldest_entry_is_evicted_events
