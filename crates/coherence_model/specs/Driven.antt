-- The driven trace of a script, and the one that a serial program makes of it.
use Rattle.std.specs.Prelude.{List, None, Option, Some, [], false, if◌then◌else◌, length, nat_lt, reverse, slice_get, sum_by, true, ℕ, ◌%◌, ◌*◌, ◌-◌, ◌∷◌}
use Rattle.cxl_message.specs.declared.events.Event.{Event}
use Rattle.cxl_message.specs.Script.{ScriptValue}
use Rattle.coherence_model.specs.Choices.{choices, is_done}
use Rattle.coherence_model.specs.Traces.{events_of}

-- how many operations a script has (own rule)
abbrev pub operation_count : ScriptValue → ℕ
operation_count script = sum_by length script.operations

-- the pick that is used now; 0 once the picks are used up (own rule)
abbrev pub pick_now : List ℕ → ℕ
pick_now [] = 0
pick_now (p ∷ ps) = p

-- the picks that are left after one was used (own rule)
abbrev pub picks_left : List ℕ → List ℕ
picks_left [] = []
picks_left (p ∷ ps) = ps

-- the choice that a pick takes: the one of its number modulo their count (own rule)
abbrev pub pick_from : ℕ → List Event → Option Event
pick_from p [] = None
pick_from p (c ∷ cs) = slice_get (c ∷ cs) (p % length (c ∷ cs))

-- how a trace goes on with the event that was picked; with none it ends (own rule)
abbrev pub go_on : Option Event → List Event → (List Event → List Event) → List Event
go_on None t more = t
go_on (Some e) t more = more (e ∷ t)

-- the trace driven on from t by at most so many events, until nothing is left to do (own rule)
abbrev pub driven_on : ℕ → ScriptValue → List ℕ → List Event → List Event
driven_on ℕ.zero script picks t = t
driven_on (ℕ.suc n) script picks t =
    elim (is_done script t) [
      | true ↦ t
      | false ↦ go_on (pick_from (pick_now picks) (choices script t)) t (driven_on n script (picks_left picks))
    ]

-- the most events that a driven trace has (own rule)
abbrev pub event_bound : ScriptValue → ℕ
event_bound script = (108 * script.setup.hosts - 3) * operation_count script

-- the driven trace of a script, newest first (own rule)
abbrev pub driven_trace : ScriptValue → List Event
driven_trace script = driven_on (event_bound script) script script.picks []

-- the script without its picks (own rule)
abbrev pub without_picks : ScriptValue → ScriptValue
without_picks script = record script { picks = [] }

-- the events before the first whose agent has `room` events before it: events kept, newest first, and events to come, oldest first (own rule)
abbrev pub cut_at : ℕ → List Event → List Event → List Event
cut_at room kept [] = kept
cut_at room kept (e ∷ later) = if nat_lt (length (events_of e.agent kept)) room then cut_at room (e ∷ kept) later else kept

-- the serial trace of a script: driven without its picks, and cut before the first event that has no room in its agent's journal (own rule)
abbrev pub serial_trace : ScriptValue → List Event
serial_trace script = cut_at script.room [] (reverse (driven_trace (without_picks script)))
