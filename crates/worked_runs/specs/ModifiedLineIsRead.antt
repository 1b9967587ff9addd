-- The worked trace 'Modified line is read': a host stores a word to line 0, the other loads it, and then the first loads it again. Lists of events are oldest first.
use Rattle.std.specs.Prelude.{List, [], reverse, ◌++◌, ◌∷◌, ◌≡◌}
use Rattle.cxl_message.specs.declared.channels.Channel.{Channel}
use Rattle.cxl_message.specs.declared.events.Event.{Event}
use Rattle.cxl_message.specs.Script.{ScriptValue}
use Rattle.cxl_message.specs.Setup.{Configuration}
use Rattle.coherence_model.specs.Driven.{driven_trace}
use Rattle.worked_runs.specs.Beginnings.{store_and_credits}
use Rattle.worked_runs.specs.Vocabulary.{answer, begin, cmp, cmp_s, credit, dev, dev_sends, dev_sends_two, finish, give_back, give_back_to, host, host_commits, host_hits, host_sends, load, mem_data, one_word, read_shared, rsp_shared, script_of, serve, setup_of, snoop, snp_data, start, take, word, write_back, write_shared}

-- its setup
abbrev pub modified_line_is_read_setup : Configuration
modified_line_is_read_setup = setup_of 2 4 4 2 2 2 (0 ∷ 1 ∷ 0 ∷ [])

-- its script: a host stores a word to line 0, the other loads it, and then the first loads it again
abbrev pub modified_line_is_read_script : ScriptValue
modified_line_is_read_script = script_of modified_line_is_read_setup ((word 0 0 1 ∷ []) ∷ (load 0 ∷ []) ∷ (load 0 ∷ []) ∷ []) []

-- its events
abbrev pub modified_line_is_read_events : List Event
modified_line_is_read_events =
    store_and_credits
    ++ host_sends 1 (begin 1 0 (load 0)) (read_shared 0 0)
    ∷ dev (take 1 (read_shared 0 0))
    ∷ dev (start 1 0)
    ∷ dev_sends (snoop 0 0) 0 (snp_data 0)
    ∷ host 0 (take 0 (snp_data 0))
    ∷ host_sends 0 (write_back 0) (write_shared 2 0 (one_word 1))
    ∷ dev (take 0 (write_shared 2 0 (one_word 1)))
    ∷ dev_sends (serve 0 2) 0 (cmp 2)
    ∷ host 0 (take 0 (cmp 2))
    ∷ host_sends 0 (answer 0) (rsp_shared 0 0)
    ∷ dev (take 0 (rsp_shared 0 0))
    ∷ host_sends 0 (give_back Channel.Ndr) (credit Channel.Ndr)
    ∷ dev (take 0 (credit Channel.Ndr))
    ∷ host_sends 0 (give_back Channel.BiSnp) (credit Channel.BiSnp)
    ∷ dev (take 0 (credit Channel.BiSnp))
    ∷ dev_sends_two (finish 0) 1 (cmp_s 0) (mem_data 0 (one_word 1))
    ∷ host 1 (take 1 (cmp_s 0))
    ∷ host_commits 1 (take 1 (mem_data 0 (one_word 1))) 1 0 (load 0) (one_word 1)
    ∷ host_sends 1 (give_back Channel.Ndr) (credit Channel.Ndr)
    ∷ dev (take 1 (credit Channel.Ndr))
    ∷ host_sends 1 (give_back Channel.Drs) (credit Channel.Drs)
    ∷ dev (take 1 (credit Channel.Drs))
    ∷ dev_sends (give_back_to 0 Channel.Rwd) 0 (credit Channel.Rwd)
    ∷ host 0 (take 0 (credit Channel.Rwd))
    ∷ dev_sends (give_back_to 0 Channel.BiRsp) 0 (credit Channel.BiRsp)
    ∷ host 0 (take 0 (credit Channel.BiRsp))
    ∷ dev_sends (give_back_to 1 Channel.Req) 1 (credit Channel.Req)
    ∷ host 1 (take 1 (credit Channel.Req))
    ∷ host_hits 0 2 0 (load 0) (one_word 1)
    ∷ []

-- the driven trace of the script is this list of events
abbrev pub ModifiedLineIsReadIsDriven : Type 0
ModifiedLineIsReadIsDriven = reverse (driven_trace modified_line_is_read_script) ≡ modified_line_is_read_events
