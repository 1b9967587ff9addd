-- The worked trace 'Clean eviction crosses': a host with one way evicts its exclusive line 0 while the other host wants it. Lists of events are oldest first.
use Rattle.std.specs.Prelude.{List, [], replicate, reverse, ◌++◌, ◌∷◌, ◌≡◌}
use Rattle.cxl_message.specs.declared.channels.Channel.{Channel}
use Rattle.cxl_message.specs.declared.events.Event.{Event}
use Rattle.cxl_message.specs.Script.{ScriptValue}
use Rattle.cxl_message.specs.Setup.{Configuration}
use Rattle.coherence_model.specs.Driven.{driven_trace}
use Rattle.worked_runs.specs.Beginnings.{load_and_credits}
use Rattle.worked_runs.specs.Vocabulary.{answer, begin, bi_conflict, clean, clean_evict, cmp, cmp_e, conflict, conflict_ack, credit, dev, dev_sends, dev_sends_two, finish, give_back, host, host_commits, host_sends, host_sends_two, load, mem_data, one_word, read_any, read_shared, rsp_invalid, script_of, serve, setup_of, snoop, snp_inv, start, take, word, zeros}

-- its setup
abbrev pub clean_eviction_crosses_setup : Configuration
clean_eviction_crosses_setup = setup_of 2 2 2 1 2 2 (0 ∷ 1 ∷ [])

-- its script: a host with one way evicts its exclusive line 0 while the other host wants it
abbrev pub clean_eviction_crosses_script : ScriptValue
clean_eviction_crosses_script = script_of clean_eviction_crosses_setup ((load 0 ∷ load 1 ∷ []) ∷ (word 0 0 1 ∷ []) ∷ []) (replicate 12 0 ++ 1 ∷ 0 ∷ 0 ∷ 0 ∷ 2 ∷ [])

-- its events
abbrev pub clean_eviction_crosses_events : List Event
clean_eviction_crosses_events =
    load_and_credits
    ++ host_sends 1 (begin 1 0 (word 0 0 1)) (read_any 0 0)
    ∷ dev (take 1 (read_any 0 0))
    ∷ dev (start 1 0)
    ∷ dev_sends (snoop 0 0) 0 (snp_inv 0)
    ∷ host_sends_two 0 (begin 0 1 (load 1)) (clean_evict 0 0) (read_shared 1 1)
    ∷ dev (take 0 (clean_evict 0 0))
    ∷ dev (take 0 (read_shared 1 1))
    ∷ host 0 (take 0 (snp_inv 0))
    ∷ host_sends 0 (conflict 0) (bi_conflict 0)
    ∷ dev (take 0 (bi_conflict 0))
    ∷ dev_sends (serve 0 0) 0 (conflict_ack 0)
    ∷ host 0 (take 0 (conflict_ack 0))
    ∷ host_sends 0 (answer 0) (rsp_invalid 0 0)
    ∷ dev (take 0 (rsp_invalid 0 0))
    ∷ host_sends 0 (give_back Channel.Ndr) (credit Channel.Ndr)
    ∷ dev (take 0 (credit Channel.Ndr))
    ∷ host_sends 0 (give_back Channel.BiSnp) (credit Channel.BiSnp)
    ∷ dev (take 0 (credit Channel.BiSnp))
    ∷ dev (start 0 1)
    ∷ dev_sends_two (finish 0) 1 (cmp_e 0) (mem_data 0 zeros)
    ∷ host 1 (take 1 (cmp_e 0))
    ∷ host_commits 1 (take 1 (mem_data 0 zeros)) 1 0 (word 0 0 1) (one_word 1)
    ∷ host_sends 1 (give_back Channel.Ndr) (credit Channel.Ndr)
    ∷ dev (take 1 (credit Channel.Ndr))
    ∷ host_sends 1 (give_back Channel.Drs) (credit Channel.Drs)
    ∷ dev (take 1 (credit Channel.Drs))
    ∷ dev_sends (clean 0 0) 0 (cmp 0)
    ∷ host 0 (take 0 (cmp 0))
    ∷ host_sends 0 (give_back Channel.Ndr) (credit Channel.Ndr)
    ∷ dev (take 0 (credit Channel.Ndr))
    ∷ dev_sends_two (finish 1) 0 (cmp_e 1) (mem_data 1 zeros)
    ∷ host 0 (take 0 (cmp_e 1))
    ∷ host_commits 0 (take 0 (mem_data 1 zeros)) 0 1 (load 1) zeros
    ∷ []

-- the driven trace of the script is this list of events
abbrev pub CleanEvictionCrossesIsDriven : Type 0
CleanEvictionCrossesIsDriven = reverse (driven_trace clean_eviction_crosses_script) ≡ clean_eviction_crosses_events
