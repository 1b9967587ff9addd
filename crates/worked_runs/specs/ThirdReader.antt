-- The worked trace 'Third reader': three hosts load line 0, one after the other, and then the first loads it again. Lists of events are oldest first.
use Rattle.std.specs.Prelude.{List, [], reverse, ◌++◌, ◌∷◌, ◌≡◌}
use Rattle.cxl_message.specs.declared.channels.Channel.{Channel}
use Rattle.cxl_message.specs.declared.events.Event.{Event}
use Rattle.cxl_message.specs.Script.{ScriptValue}
use Rattle.cxl_message.specs.Setup.{Configuration}
use Rattle.coherence_model.specs.Driven.{driven_trace}
use Rattle.worked_runs.specs.Beginnings.{sharing_and_credits}
use Rattle.worked_runs.specs.Vocabulary.{begin, cmp_s, credit, dev, dev_sends, dev_sends_two, finish, give_back, give_back_to, host, host_commits, host_hits, host_sends, load, mem_data, read_shared, script_of, setup_of, start, take, zeros}

-- its setup
abbrev pub third_reader_setup : Configuration
third_reader_setup = setup_of 3 4 4 2 2 2 (0 ∷ 1 ∷ 2 ∷ 0 ∷ [])

-- its script: three hosts load line 0, one after the other, and then the first loads it again
abbrev pub third_reader_script : ScriptValue
third_reader_script = script_of third_reader_setup ((load 0 ∷ []) ∷ (load 0 ∷ []) ∷ (load 0 ∷ []) ∷ (load 0 ∷ []) ∷ []) []

-- its events
abbrev pub third_reader_events : List Event
third_reader_events =
    sharing_and_credits
    ++ host_sends 2 (begin 2 0 (load 0)) (read_shared 0 0)
    ∷ dev (take 2 (read_shared 0 0))
    ∷ dev (start 2 0)
    ∷ dev_sends_two (finish 0) 2 (cmp_s 0) (mem_data 0 zeros)
    ∷ host 2 (take 2 (cmp_s 0))
    ∷ host_commits 2 (take 2 (mem_data 0 zeros)) 2 0 (load 0) zeros
    ∷ host_sends 2 (give_back Channel.Ndr) (credit Channel.Ndr)
    ∷ dev (take 2 (credit Channel.Ndr))
    ∷ host_sends 2 (give_back Channel.Drs) (credit Channel.Drs)
    ∷ dev (take 2 (credit Channel.Drs))
    ∷ dev_sends (give_back_to 2 Channel.Req) 2 (credit Channel.Req)
    ∷ host 2 (take 2 (credit Channel.Req))
    ∷ host_hits 0 3 0 (load 0) zeros
    ∷ []

-- the driven trace of the script is this list of events
abbrev pub ThirdReaderIsDriven : Type 0
ThirdReaderIsDriven = reverse (driven_trace third_reader_script) ≡ third_reader_events
