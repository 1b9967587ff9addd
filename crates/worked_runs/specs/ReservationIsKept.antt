-- The worked trace 'Reservation is kept': two hosts want lines under a filter of one entry, and the eviction is for the second. Lists of events are oldest first.
use Rattle.std.specs.Prelude.{List, [], replicate, reverse, ◌++◌, ◌∷◌, ◌≡◌}
use Rattle.cxl_message.specs.declared.channels.Channel.{Channel}
use Rattle.cxl_message.specs.declared.events.Event.{Event}
use Rattle.cxl_message.specs.Script.{ScriptValue}
use Rattle.cxl_message.specs.Setup.{Configuration}
use Rattle.coherence_model.specs.Driven.{driven_trace}
use Rattle.worked_runs.specs.Beginnings.{load_and_credits}
use Rattle.worked_runs.specs.Vocabulary.{answer, begin, cmp_e, credit, dev, dev_sends, dev_sends_two, evict, finish, give_back, host, host_commits, host_sends, load, mem_data, read_shared, rsp_invalid, script_of, setup_of, snoop, snp_inv, start, take, zeros}

-- its setup
abbrev pub reservation_is_kept_setup : Configuration
reservation_is_kept_setup = setup_of 2 3 1 2 2 2 (0 ∷ 1 ∷ [])

-- its script: two hosts want lines under a filter of one entry, and the eviction is for the second
abbrev pub reservation_is_kept_script : ScriptValue
reservation_is_kept_script = script_of reservation_is_kept_setup ((load 0 ∷ load 2 ∷ []) ∷ (load 1 ∷ []) ∷ []) (replicate 12 0 ++ 1 ∷ 0 ∷ 0 ∷ 1 ∷ [])

-- its events
abbrev pub reservation_is_kept_events : List Event
reservation_is_kept_events =
    load_and_credits
    ++ host_sends 1 (begin 1 0 (load 1)) (read_shared 0 1)
    ∷ dev (take 1 (read_shared 0 1))
    ∷ dev (evict 1 0)
    ∷ host_sends 0 (begin 0 1 (load 2)) (read_shared 0 2)
    ∷ dev (take 0 (read_shared 0 2))
    ∷ dev_sends (snoop 0 0) 0 (snp_inv 0)
    ∷ host 0 (take 0 (snp_inv 0))
    ∷ host_sends 0 (answer 0) (rsp_invalid 0 0)
    ∷ dev (take 0 (rsp_invalid 0 0))
    ∷ host_sends 0 (give_back Channel.BiSnp) (credit Channel.BiSnp)
    ∷ dev (take 0 (credit Channel.BiSnp))
    ∷ dev (finish 0)
    ∷ dev (start 1 0)
    ∷ dev_sends_two (finish 1) 1 (cmp_e 0) (mem_data 0 zeros)
    ∷ host 1 (take 1 (cmp_e 0))
    ∷ host_commits 1 (take 1 (mem_data 0 zeros)) 1 0 (load 1) zeros
    ∷ host_sends 1 (give_back Channel.Ndr) (credit Channel.Ndr)
    ∷ dev (take 1 (credit Channel.Ndr))
    ∷ host_sends 1 (give_back Channel.Drs) (credit Channel.Drs)
    ∷ dev (take 1 (credit Channel.Drs))
    ∷ dev (evict 0 0)
    ∷ dev_sends (snoop 1 1) 1 (snp_inv 1)
    ∷ host 1 (take 1 (snp_inv 1))
    ∷ host_sends 1 (answer 1) (rsp_invalid 1 0)
    ∷ dev (take 1 (rsp_invalid 1 0))
    ∷ host_sends 1 (give_back Channel.BiSnp) (credit Channel.BiSnp)
    ∷ dev (take 1 (credit Channel.BiSnp))
    ∷ dev (finish 1)
    ∷ dev (start 0 0)
    ∷ dev_sends_two (finish 2) 0 (cmp_e 0) (mem_data 0 zeros)
    ∷ host 0 (take 0 (cmp_e 0))
    ∷ host_commits 0 (take 0 (mem_data 0 zeros)) 0 1 (load 2) zeros
    ∷ []

-- the driven trace of the script is this list of events
abbrev pub ReservationIsKeptIsDriven : Type 0
ReservationIsKeptIsDriven = reverse (driven_trace reservation_is_kept_script) ≡ reservation_is_kept_events
