-- The worked trace 'Downgrade and sharing': two hosts load line 0, one after the other. Lists of events are oldest first.
use Rattle.std.specs.Prelude.{List, [], reverse, ◌++◌, ◌∷◌, ◌≡◌}
use Rattle.cxl_message.specs.declared.channels.Channel.{Channel}
use Rattle.cxl_message.specs.declared.events.Event.{Event}
use Rattle.cxl_message.specs.Script.{ScriptValue}
use Rattle.cxl_message.specs.Setup.{Configuration}
use Rattle.coherence_model.specs.Driven.{driven_trace}
use Rattle.worked_runs.specs.Beginnings.{load_and_credits}
use Rattle.worked_runs.specs.Vocabulary.{answer, begin, cmp_s, credit, dev, dev_sends, dev_sends_two, finish, give_back, host, host_commits, host_sends, load, mem_data, read_shared, rsp_shared, script_of, setup_of, snoop, snp_data, start, take, zeros}

-- its setup
abbrev pub downgrade_and_sharing_setup : Configuration
downgrade_and_sharing_setup = setup_of 2 4 4 2 2 2 (0 ∷ 1 ∷ [])

-- its script: two hosts load line 0, one after the other
abbrev pub downgrade_and_sharing_script : ScriptValue
downgrade_and_sharing_script = script_of downgrade_and_sharing_setup ((load 0 ∷ []) ∷ (load 0 ∷ []) ∷ []) []

-- its events
abbrev pub downgrade_and_sharing_events : List Event
downgrade_and_sharing_events =
    load_and_credits
    ++ host_sends 1 (begin 1 0 (load 0)) (read_shared 0 0)
    ∷ dev (take 1 (read_shared 0 0))
    ∷ dev (start 1 0)
    ∷ dev_sends (snoop 0 0) 0 (snp_data 0)
    ∷ host 0 (take 0 (snp_data 0))
    ∷ host_sends 0 (answer 0) (rsp_shared 0 0)
    ∷ dev (take 0 (rsp_shared 0 0))
    ∷ host_sends 0 (give_back Channel.BiSnp) (credit Channel.BiSnp)
    ∷ dev (take 0 (credit Channel.BiSnp))
    ∷ dev_sends_two (finish 0) 1 (cmp_s 0) (mem_data 0 zeros)
    ∷ host 1 (take 1 (cmp_s 0))
    ∷ host_commits 1 (take 1 (mem_data 0 zeros)) 1 0 (load 0) zeros
    ∷ []

-- the driven trace of the script is this list of events
abbrev pub DowngradeAndSharingIsDriven : Type 0
DowngradeAndSharingIsDriven = reverse (driven_trace downgrade_and_sharing_script) ≡ downgrade_and_sharing_events
