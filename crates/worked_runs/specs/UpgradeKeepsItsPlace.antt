-- The worked trace 'Upgrade keeps its place': a host with two ways upgrades its oldest line, and then evicts it for a third. Lists of events are oldest first.
use Rattle.std.specs.Prelude.{List, [], reverse, ◌++◌, ◌∷◌, ◌≡◌}
use Rattle.cxl_message.specs.declared.channels.Channel.{Channel}
use Rattle.cxl_message.specs.declared.events.Event.{Event}
use Rattle.cxl_message.specs.Script.{ScriptValue}
use Rattle.cxl_message.specs.Setup.{Configuration}
use Rattle.coherence_model.specs.Driven.{driven_trace}
use Rattle.worked_runs.specs.Beginnings.{load_and_credits}
use Rattle.worked_runs.specs.Vocabulary.{answer, begin, cmp, cmp_e, cmp_s, credit, dev, dev_sends, dev_sends_two, finish, give_back, give_back_to, host, host_commits, host_sends, host_sends_two, load, mem_data, one_word, read_any, read_shared, rsp_invalid, rsp_shared, script_of, serve, setup_of, snoop, snp_data, snp_inv, start, take, word, write_invalid, zeros}

-- its setup
abbrev pub upgrade_keeps_its_place_setup : Configuration
upgrade_keeps_its_place_setup = setup_of 2 3 3 2 2 2 (0 ∷ 1 ∷ 0 ∷ [])

-- its script: a host with two ways upgrades its oldest line, and then evicts it for a third
abbrev pub upgrade_keeps_its_place_script : ScriptValue
upgrade_keeps_its_place_script = script_of upgrade_keeps_its_place_setup ((load 0 ∷ load 1 ∷ []) ∷ (load 0 ∷ []) ∷ (word 0 0 1 ∷ load 2 ∷ []) ∷ []) []

-- its events
abbrev pub upgrade_keeps_its_place_events : List Event
upgrade_keeps_its_place_events =
    load_and_credits
    ++ host_sends 0 (begin 0 1 (load 1)) (read_shared 0 1)
    ∷ dev (take 0 (read_shared 0 1))
    ∷ dev (start 0 0)
    ∷ dev_sends_two (finish 1) 0 (cmp_e 0) (mem_data 0 zeros)
    ∷ host 0 (take 0 (cmp_e 0))
    ∷ host_commits 0 (take 0 (mem_data 0 zeros)) 0 1 (load 1) zeros
    ∷ host_sends 0 (give_back Channel.Ndr) (credit Channel.Ndr)
    ∷ dev (take 0 (credit Channel.Ndr))
    ∷ host_sends 0 (give_back Channel.Drs) (credit Channel.Drs)
    ∷ dev (take 0 (credit Channel.Drs))
    ∷ dev_sends (give_back_to 0 Channel.Req) 0 (credit Channel.Req)
    ∷ host 0 (take 0 (credit Channel.Req))
    ∷ host_sends 1 (begin 1 0 (load 0)) (read_shared 0 0)
    ∷ dev (take 1 (read_shared 0 0))
    ∷ dev (start 1 0)
    ∷ dev_sends (snoop 0 0) 0 (snp_data 0)
    ∷ host 0 (take 0 (snp_data 0))
    ∷ host_sends 0 (answer 0) (rsp_shared 0 0)
    ∷ dev (take 0 (rsp_shared 0 0))
    ∷ host_sends 0 (give_back Channel.BiSnp) (credit Channel.BiSnp)
    ∷ dev (take 0 (credit Channel.BiSnp))
    ∷ dev_sends_two (finish 0) 1 (cmp_s 0) (mem_data 0 zeros)
    ∷ host 1 (take 1 (cmp_s 0))
    ∷ host_commits 1 (take 1 (mem_data 0 zeros)) 1 0 (load 0) zeros
    ∷ host_sends 1 (give_back Channel.Ndr) (credit Channel.Ndr)
    ∷ dev (take 1 (credit Channel.Ndr))
    ∷ host_sends 1 (give_back Channel.Drs) (credit Channel.Drs)
    ∷ dev (take 1 (credit Channel.Drs))
    ∷ dev_sends (give_back_to 0 Channel.BiRsp) 0 (credit Channel.BiRsp)
    ∷ host 0 (take 0 (credit Channel.BiRsp))
    ∷ dev_sends (give_back_to 1 Channel.Req) 1 (credit Channel.Req)
    ∷ host 1 (take 1 (credit Channel.Req))
    ∷ host_sends 0 (begin 2 0 (word 0 0 1)) (read_any 0 0)
    ∷ dev (take 0 (read_any 0 0))
    ∷ dev (start 0 0)
    ∷ dev_sends (snoop 1 0) 1 (snp_inv 0)
    ∷ host 1 (take 1 (snp_inv 0))
    ∷ host_sends 1 (answer 0) (rsp_invalid 0 0)
    ∷ dev (take 1 (rsp_invalid 0 0))
    ∷ host_sends 1 (give_back Channel.BiSnp) (credit Channel.BiSnp)
    ∷ dev (take 1 (credit Channel.BiSnp))
    ∷ dev_sends_two (finish 0) 0 (cmp_e 0) (mem_data 0 zeros)
    ∷ host 0 (take 0 (cmp_e 0))
    ∷ host_commits 0 (take 0 (mem_data 0 zeros)) 2 0 (word 0 0 1) (one_word 1)
    ∷ host_sends 0 (give_back Channel.Ndr) (credit Channel.Ndr)
    ∷ dev (take 0 (credit Channel.Ndr))
    ∷ host_sends 0 (give_back Channel.Drs) (credit Channel.Drs)
    ∷ dev (take 0 (credit Channel.Drs))
    ∷ dev_sends (give_back_to 0 Channel.Req) 0 (credit Channel.Req)
    ∷ host 0 (take 0 (credit Channel.Req))
    ∷ dev_sends (give_back_to 1 Channel.BiRsp) 1 (credit Channel.BiRsp)
    ∷ host 1 (take 1 (credit Channel.BiRsp))
    ∷ host_sends_two 0 (begin 2 1 (load 2)) (write_invalid 0 0 (one_word 1)) (read_shared 1 2)
    ∷ dev (take 0 (read_shared 1 2))
    ∷ dev (take 0 (write_invalid 0 0 (one_word 1)))
    ∷ dev_sends (serve 0 0) 0 (cmp 0)
    ∷ host 0 (take 0 (cmp 0))
    ∷ host_sends 0 (give_back Channel.Ndr) (credit Channel.Ndr)
    ∷ dev (take 0 (credit Channel.Ndr))
    ∷ dev (start 0 1)
    ∷ dev_sends_two (finish 2) 0 (cmp_e 1) (mem_data 1 zeros)
    ∷ host 0 (take 0 (cmp_e 1))
    ∷ host_commits 0 (take 0 (mem_data 1 zeros)) 2 1 (load 2) zeros
    ∷ []

-- the driven trace of the script is this list of events
abbrev pub UpgradeKeepsItsPlaceIsDriven : Type 0
UpgradeKeepsItsPlaceIsDriven = reverse (driven_trace upgrade_keeps_its_place_script) ≡ upgrade_keeps_its_place_events
