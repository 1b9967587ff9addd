-- The worked trace 'Whole line stores under early conflict': two hosts share line 0, and then both store the whole of it at once. Lists of events are oldest first.
use Rattle.std.specs.Prelude.{List, [], replicate, reverse, ◌++◌, ◌∷◌, ◌≡◌}
use Rattle.cxl_message.specs.declared.channels.Channel.{Channel}
use Rattle.cxl_message.specs.declared.events.Event.{Event}
use Rattle.cxl_message.specs.Script.{ScriptValue}
use Rattle.cxl_message.specs.Setup.{Configuration}
use Rattle.coherence_model.specs.Driven.{driven_trace}
use Rattle.worked_runs.specs.Beginnings.{sharing_and_credits}
use Rattle.worked_runs.specs.Vocabulary.{answer, begin, bi_conflict, cmp, cmp_e, conflict, conflict_ack, credit, dev, dev_sends, filled, finish, give_back, host, host_commits, host_sends, invalidate, load, rsp_invalid, script_of, serve, setup_of, snoop, snp_inv, start, take, whole, write_back, write_invalid}

-- its setup
abbrev pub whole_line_stores_under_early_conflict_setup : Configuration
whole_line_stores_under_early_conflict_setup = setup_of 2 4 4 2 2 2 (0 ∷ 1 ∷ 0 ∷ 1 ∷ [])

-- its script: two hosts share line 0, and then both store the whole of it at once
abbrev pub whole_line_stores_under_early_conflict_script : ScriptValue
whole_line_stores_under_early_conflict_script = script_of whole_line_stores_under_early_conflict_setup ((load 0 ∷ []) ∷ (load 0 ∷ []) ∷ (whole 0 (filled 0x11) ∷ []) ∷ (whole 0 (filled 0x22) ∷ []) ∷ []) (replicate 33 0 ++ 1 ∷ [])

-- its events
abbrev pub whole_line_stores_under_early_conflict_events : List Event
whole_line_stores_under_early_conflict_events =
    sharing_and_credits
    ++ host_sends 0 (begin 2 0 (whole 0 (filled 0x11))) (invalidate 0 0)
    ∷ host_sends 1 (begin 3 0 (whole 0 (filled 0x22))) (invalidate 0 0)
    ∷ dev (take 0 (invalidate 0 0))
    ∷ dev (take 1 (invalidate 0 0))
    ∷ dev (start 0 0)
    ∷ dev_sends (snoop 1 0) 1 (snp_inv 0)
    ∷ host 1 (take 1 (snp_inv 0))
    ∷ host_sends 1 (conflict 0) (bi_conflict 0)
    ∷ dev (take 1 (bi_conflict 0))
    ∷ dev_sends (serve 1 0) 1 (conflict_ack 0)
    ∷ host 1 (take 1 (conflict_ack 0))
    ∷ host_sends 1 (answer 0) (rsp_invalid 0 0)
    ∷ dev (take 1 (rsp_invalid 0 0))
    ∷ host_sends 1 (give_back Channel.Ndr) (credit Channel.Ndr)
    ∷ dev (take 1 (credit Channel.Ndr))
    ∷ host_sends 1 (give_back Channel.BiSnp) (credit Channel.BiSnp)
    ∷ dev (take 1 (credit Channel.BiSnp))
    ∷ dev_sends (finish 0) 0 (cmp_e 0)
    ∷ host_commits 0 (take 0 (cmp_e 0)) 2 0 (whole 0 (filled 0x11)) (filled 0x11)
    ∷ host_sends 0 (give_back Channel.Ndr) (credit Channel.Ndr)
    ∷ dev (take 0 (credit Channel.Ndr))
    ∷ dev (start 1 0)
    ∷ dev_sends (snoop 0 0) 0 (snp_inv 0)
    ∷ host 0 (take 0 (snp_inv 0))
    ∷ host_sends 0 (write_back 0) (write_invalid 2 0 (filled 0x11))
    ∷ dev (take 0 (write_invalid 2 0 (filled 0x11)))
    ∷ dev_sends (serve 0 2) 0 (cmp 2)
    ∷ host 0 (take 0 (cmp 2))
    ∷ host_sends 0 (answer 0) (rsp_invalid 0 0)
    ∷ dev (take 0 (rsp_invalid 0 0))
    ∷ host_sends 0 (give_back Channel.Ndr) (credit Channel.Ndr)
    ∷ dev (take 0 (credit Channel.Ndr))
    ∷ host_sends 0 (give_back Channel.BiSnp) (credit Channel.BiSnp)
    ∷ dev (take 0 (credit Channel.BiSnp))
    ∷ dev_sends (finish 0) 1 (cmp_e 0)
    ∷ host_commits 1 (take 1 (cmp_e 0)) 3 0 (whole 0 (filled 0x22)) (filled 0x22)
    ∷ []

-- the driven trace of the script is this list of events
abbrev pub WholeLineStoresUnderEarlyConflictIsDriven : Type 0
WholeLineStoresUnderEarlyConflictIsDriven = reverse (driven_trace whole_line_stores_under_early_conflict_script) ≡ whole_line_stores_under_early_conflict_events
