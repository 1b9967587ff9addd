-- The worked trace 'Shared copy dropped': a host with one way drops its shared copy of line 0 for line 1, and is snooped for line 0 all the same. Lists of events are oldest first.
use Rattle.std.specs.Prelude.{List, [], reverse, ◌++◌, ◌∷◌, ◌≡◌}
use Rattle.cxl_message.specs.declared.channels.Channel.{Channel}
use Rattle.cxl_message.specs.declared.events.Event.{Event}
use Rattle.cxl_message.specs.Script.{ScriptValue}
use Rattle.cxl_message.specs.Setup.{Configuration}
use Rattle.coherence_model.specs.Driven.{driven_trace}
use Rattle.worked_runs.specs.Beginnings.{sharing_and_credits}
use Rattle.worked_runs.specs.Vocabulary.{answer, begin, cmp_e, credit, dev, dev_sends, dev_sends_two, finish, give_back, give_back_to, host, host_commits, host_sends, load, mem_data, one_word, read_any, read_shared, rsp_invalid, script_of, setup_of, snoop, snp_inv, start, take, word, zeros}

-- its setup
abbrev pub shared_copy_dropped_setup : Configuration
shared_copy_dropped_setup = setup_of 2 2 2 1 2 2 (0 ∷ 1 ∷ 0 ∷ [])

-- its script: a host with one way drops its shared copy of line 0 for line 1, and is snooped for line 0 all the same
abbrev pub shared_copy_dropped_script : ScriptValue
shared_copy_dropped_script = script_of shared_copy_dropped_setup ((load 0 ∷ []) ∷ (load 0 ∷ load 1 ∷ []) ∷ (word 0 0 1 ∷ []) ∷ []) []

-- its events
abbrev pub shared_copy_dropped_events : List Event
shared_copy_dropped_events =
    sharing_and_credits
    ++ host_sends 1 (begin 1 1 (load 1)) (read_shared 0 1)
    ∷ dev (take 1 (read_shared 0 1))
    ∷ dev (start 1 0)
    ∷ dev_sends_two (finish 1) 1 (cmp_e 0) (mem_data 0 zeros)
    ∷ host 1 (take 1 (cmp_e 0))
    ∷ host_commits 1 (take 1 (mem_data 0 zeros)) 1 1 (load 1) zeros
    ∷ host_sends 1 (give_back Channel.Ndr) (credit Channel.Ndr)
    ∷ dev (take 1 (credit Channel.Ndr))
    ∷ host_sends 1 (give_back Channel.Drs) (credit Channel.Drs)
    ∷ dev (take 1 (credit Channel.Drs))
    ∷ dev_sends (give_back_to 1 Channel.Req) 1 (credit Channel.Req)
    ∷ host 1 (take 1 (credit Channel.Req))
    ∷ host_sends 0 (begin 2 0 (word 0 0 1)) (read_any 0 0)
    ∷ dev (take 0 (read_any 0 0))
    ∷ dev (start 0 0)
    ∷ dev_sends (snoop 1 0) 1 (snp_inv 0)
    ∷ host 1 (take 1 (snp_inv 0))
    ∷ host_sends 1 (answer 0) (rsp_invalid 0 0)
    ∷ dev (take 1 (rsp_invalid 0 0))
    ∷ host_sends 1 (give_back Channel.BiSnp) (credit Channel.BiSnp)
    ∷ dev (take 1 (credit Channel.BiSnp))
    ∷ dev_sends_two (finish 0) 0 (cmp_e 0) (mem_data 0 zeros)
    ∷ host 0 (take 0 (cmp_e 0))
    ∷ host_commits 0 (take 0 (mem_data 0 zeros)) 2 0 (word 0 0 1) (one_word 1)
    ∷ []

-- the driven trace of the script is this list of events
abbrev pub SharedCopyDroppedIsDriven : Type 0
SharedCopyDroppedIsDriven = reverse (driven_trace shared_copy_dropped_script) ≡ shared_copy_dropped_events
