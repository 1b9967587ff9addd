-- The choices of a script at a moment: the next steps, then the next operations of its streams. Every order here is an own rule.
use Rattle.std.specs.Prelude.{Bool, List, None, Option, Some, [], flat_map, if◌then◌else◌, length, not, slice_get, ℕ, ◌&&◌, ◌++◌, ◌+◌, ◌==◌, ◌∷◌}
use Rattle.std.specs.List.{list_all}
use Rattle.cxl_message.specs.declared.events.Cause.{Cause}
use Rattle.cxl_message.specs.declared.events.Event.{Event}
use Rattle.cxl_message.specs.declared.events.Op.{Op}
use Rattle.cxl_message.specs.Script.{ScriptValue}
use Rattle.coherence_model.specs.Next.{next_steps, step_of}
use Rattle.coherence_model.specs.Pending.{is_pending}
use Rattle.coherence_model.specs.Streams.{begun_count, stream_waits}
use Rattle.coherence_model.specs.Traces.{events_of}

-- a stream of a script: its number, its host and its operations (own rule)
pub record Stream : Type 0 where
  pub number : ℕ
  pub host : ℕ
  pub operations : List Op

-- the streams with these hosts and operations, numbered from n on (own rule)
abbrev pub streams_from : ℕ → List ℕ → List (List Op) → List Stream
streams_from n [] lists = []
streams_from n (h ∷ hosts) [] = []
streams_from n (h ∷ hosts) (ops ∷ lists) = record { number = n; host = h; operations = ops } ∷ streams_from (n + 1) hosts lists

-- the streams of a script (own rule)
abbrev pub streams_of : ScriptValue → List Stream
streams_of script = streams_from 0 script.setup.streams script.operations

-- the event of a stream's next operation, if there is one and its row holds (own rule)
abbrev pub operation_step : ScriptValue → List Event → Stream → Option Op → List Event
operation_step script t s None = []
operation_step script t s (Some op) = step_of script.setup script.opening t s.host (Cause.Op s.number (begun_count s.number (events_of s.host t)) op)

-- the operation that a stream begins next, if its last one has its commit and one is left (own rule)
abbrev pub next_operation : List Event → Stream → Option Op
next_operation mine s = if stream_waits s.number mine then None else slice_get s.operations (begun_count s.number mine)

-- the next operation of a stream, as an event, where its row allows it (own rule)
abbrev pub stream_step : ScriptValue → List Event → Stream → List Event
stream_step script t s = operation_step script t s (next_operation (events_of s.host t) s)

-- the choices at a moment: the next steps, then each stream's next operation (own rule)
abbrev pub choices : ScriptValue → List Event → List Event
choices script t = next_steps script.setup script.opening t ++ flat_map (stream_step script t) (streams_of script)

-- whether a stream began all of its operations (own rule)
abbrev pub is_all_begun : List Event → Stream → Bool
is_all_begun t s = begun_count s.number (events_of s.host t) == length s.operations

-- whether no operation is left and nothing is pending (own rule)
abbrev pub is_done : ScriptValue → List Event → Bool
is_done script t = list_all (is_all_begun t) (streams_of script) && not (is_pending script.setup t)
