-- The worked trace 'Whole line store then hit': one host stores the whole of line 0 and then loads it. Lists of events are oldest first.
use Rattle.std.specs.Prelude.{List, [], reverse, ◌∷◌, ◌≡◌}
use Rattle.cxl_message.specs.declared.channels.Channel.{Channel}
use Rattle.cxl_message.specs.declared.events.Event.{Event}
use Rattle.cxl_message.specs.Script.{ScriptValue}
use Rattle.cxl_message.specs.Setup.{Configuration}
use Rattle.coherence_model.specs.Driven.{driven_trace}
use Rattle.worked_runs.specs.Vocabulary.{begin, cmp_e, credit, dev, dev_sends, filled, finish, give_back, give_back_to, host, host_commits, host_hits, host_sends, invalidate, load, script_of, setup_of, start, take, whole}

-- its setup
abbrev pub whole_line_store_then_hit_setup : Configuration
whole_line_store_then_hit_setup = setup_of 1 1 1 1 2 2 (0 ∷ [])

-- its script: one host stores the whole of line 0 and then loads it
abbrev pub whole_line_store_then_hit_script : ScriptValue
whole_line_store_then_hit_script = script_of whole_line_store_then_hit_setup ((whole 0 (filled 0x11) ∷ load 0 ∷ []) ∷ []) []

-- its events
abbrev pub whole_line_store_then_hit_events : List Event
whole_line_store_then_hit_events =
    host_sends 0 (begin 0 0 (whole 0 (filled 0x11))) (invalidate 0 0)
    ∷ dev (take 0 (invalidate 0 0))
    ∷ dev (start 0 0)
    ∷ dev_sends (finish 0) 0 (cmp_e 0)
    ∷ host_commits 0 (take 0 (cmp_e 0)) 0 0 (whole 0 (filled 0x11)) (filled 0x11)
    ∷ host_sends 0 (give_back Channel.Ndr) (credit Channel.Ndr)
    ∷ dev (take 0 (credit Channel.Ndr))
    ∷ dev_sends (give_back_to 0 Channel.Req) 0 (credit Channel.Req)
    ∷ host 0 (take 0 (credit Channel.Req))
    ∷ host_hits 0 0 1 (load 0) (filled 0x11)
    ∷ []

-- the driven trace of the script is this list of events
abbrev pub WholeLineStoreThenHitIsDriven : Type 0
WholeLineStoreThenHitIsDriven = reverse (driven_trace whole_line_store_then_hit_script) ≡ whole_line_store_then_hit_events
