-- Laws of the serial trace of a script.
use Rattle.std.specs.Prelude.{IsTrue, List, Some, [], false, length, slice_get, take, ℕ, ◌<◌, ◌⊎◌, ◌∷◌, ◌≡◌, ◌≤◌}
use Rattle.cxl_message.specs.declared.events.Event.{Event}
use Rattle.cxl_message.specs.declared.events.Op.{Op}
use Rattle.cxl_message.specs.Script.{ScriptValue}
use Rattle.cxl_message.specs.Setup.{stream_host}
use Rattle.coherence_model.specs.Choices.{choices, is_done}
use Rattle.coherence_model.specs.Driven.{driven_trace, event_bound, pick_from, serial_trace, without_picks}
use Rattle.coherence_model.specs.Runs.{IsRun}
use Rattle.coherence_model.specs.Traces.{events_of, history}
use Rattle.commit_laws.specs.Commits.{committed, numbered}
use Rattle.driven_laws.specs.Reached.{IsReached}
use Rattle.driven_laws.specs.Scripts.{IsDrivable}
use Rattle.commit_laws.specs.Begun.{Follows, done_count, is_complete}
use Rattle.serial_laws.specs.Cuts.{HasRoom, IsCut, IsOnSerialWay, SomeIsFull}

-- the serial trace is the driven one without picks, cut before the first event that has no room
abbrev pub SerialIsCut : Type 0
SerialIsCut = (script : ScriptValue) → IsCut script.room (driven_trace (without_picks script)) (serial_trace script)

-- each agent has at most as many events in it as there is room for
abbrev pub SerialHasRoom : Type 0
SerialHasRoom = (script : ScriptValue) → HasRoom script.room (serial_trace script)

-- where there is room for the script's bound nothing is cut off
abbrev pub SerialIsWhole : Type 0
SerialIsWhole = (script : ScriptValue) → IsDrivable script → event_bound script ≤ script.room → serial_trace script ≡ driven_trace (without_picks script)

-- driving the script comes to the serial trace
abbrev pub SerialIsReached : Type 0
SerialIsReached = (script : ScriptValue) → IsReached script (serial_trace script)

-- the serial trace is a run
abbrev pub SerialIsRun : Type 0
SerialIsRun = (script : ScriptValue) → IsDrivable script → IsRun script.setup script.opening (serial_trace script)

-- each stream's operations in it are the first of the script's
abbrev pub SerialFollows : Type 0
SerialFollows = (script : ScriptValue) → IsDrivable script → Follows script (serial_trace script)

-- and its commits name those of the script's operations that are done
abbrev pub SerialCommits : Type 0
SerialCommits =
    (script : ScriptValue) → IsDrivable script → (s h : ℕ) (ops : List Op) → stream_host script.setup s ≡ Some h → slice_get script.operations s ≡ Some ops
    → committed s (history (serial_trace script)) ≡ numbered 0 (take (done_count s (events_of h (serial_trace script))) ops)

-- all operations are done in the serial trace, or some agent has as many events in it as there is room for
abbrev pub SerialIsCompleteOrFull : Type 0
SerialIsCompleteOrFull = (script : ScriptValue) → IsDrivable script → IsTrue (is_complete script (serial_trace script)) ⊎ SomeIsFull script.room (serial_trace script)

-- the empty trace is on the way to the serial one
abbrev pub SerialBegins : Type 0
SerialBegins = (script : ScriptValue) → IsOnSerialWay script []

-- with the first choice, where it has room, a trace that isn't done stays on the way
abbrev pub SerialGoesOn : Type 0
SerialGoesOn =
    (script : ScriptValue) → IsDrivable script → (t : List Event) (e : Event) → IsOnSerialWay script t → is_done script t ≡ false → pick_from 0 (choices script t) ≡ Some e
    → length (events_of e.agent t) < script.room → IsOnSerialWay script (e ∷ t)

-- where it is done it is the serial trace
abbrev pub SerialEnds : Type 0
SerialEnds = (script : ScriptValue) (t : List Event) → IsOnSerialWay script t → IsTrue (is_done script t) → t ≡ serial_trace script

-- and so it is where the first choice has no room
abbrev pub SerialStops : Type 0
SerialStops =
    (script : ScriptValue) → IsDrivable script → (t : List Event) (e : Event) → IsOnSerialWay script t → is_done script t ≡ false → pick_from 0 (choices script t) ≡ Some e
    → script.room ≤ length (events_of e.agent t) → t ≡ serial_trace script
