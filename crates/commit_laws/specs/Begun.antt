-- Which operations the streams of a trace began, and when a trace follows a script.
use Rattle.std.specs.Prelude.{Bool, List, Some, [], false, if◌then◌else◌, length, slice_get, true, ℕ, ◌++◌, ◌-◌, ◌==◌, ◌∷◌, ◌≡◌}
use Rattle.std.specs.List.{list_all}
use Rattle.std.specs.Option.{option_map_or}
use Rattle.cxl_message.specs.declared.events.Cause.{Cause}
use Rattle.cxl_message.specs.declared.events.Event.{Event}
use Rattle.cxl_message.specs.declared.events.Op.{Op}
use Rattle.cxl_message.specs.Events.{op_eq}
use Rattle.cxl_message.specs.Script.{ScriptValue}
use Rattle.coherence_model.specs.Choices.{Stream, streams_of}
use Rattle.coherence_model.specs.Streams.{begun_count, stream_waits}
use Rattle.coherence_model.specs.Traces.{events_of}

-- the operation of stream s that a cause begins: a list of one or none (own rule)
abbrev pub begun_by : ℕ → Cause → List Op
begun_by s (Cause.Op k _ op) = if k == s then op ∷ [] else []
begun_by s (Cause.Take _ _) = []
begun_by s (Cause.Act _) = []

-- the operations that stream s began in a trace, the oldest first (own rule)
abbrev pub operations_of : ℕ → List Event → List Op
operations_of s [] = []
operations_of s (e ∷ past) = operations_of s past ++ begun_by s e.cause

-- how many operations of stream s are done, by its host's own events: those begun, without the one that waits (own rule)
abbrev pub done_count : ℕ → List Event → ℕ
done_count s mine = begun_count s mine - (if stream_waits s mine then 1 else 0)

-- a list begins with another
abbrev pub BeginsWith : List Op → List Op → Type 0
BeginsWith ops front = (rest : List Op) × (ops ≡ front ++ rest)

-- a trace follows a script: the operations that each stream began are the first of the script's
abbrev pub Follows : ScriptValue → List Event → Type 0
Follows script t = (s : ℕ) (ops : List Op) → slice_get script.operations s ≡ Some ops → BeginsWith ops (operations_of s t)

-- a script has a list of operations for each stream of its setup
abbrev pub ListsEachStream : ScriptValue → Type 0
ListsEachStream script = length script.operations ≡ length script.setup.streams

-- whether a cause is no operation, or the script's of its stream and index (own rule)
abbrev pub is_of_script : ScriptValue → Cause → Bool
is_of_script script (Cause.Op s i op) = option_map_or (λ ops. option_map_or (op_eq op) (slice_get ops i) false) (slice_get script.operations s) false
is_of_script script (Cause.Take _ _) = true
is_of_script script (Cause.Act _) = true

-- whether each operation of a trace is the script's (own rule)
abbrev pub follows : ScriptValue → List Event → Bool
follows script t = list_all (λ e. is_of_script script e.cause) t

-- whether all operations of a stream are done (own rule)
abbrev pub is_all_committed : List Event → Stream → Bool
is_all_committed t y = done_count y.number (events_of y.host t) == length y.operations

-- whether all operations of a script are done (own rule)
abbrev pub is_complete : ScriptValue → List Event → Bool
is_complete script t = list_all (is_all_committed t) (streams_of script)
