-- How far the driving of a script is. Every rule here is an own rule.
use Rattle.std.specs.Prelude.{Bool, List, Some, false, cond, get_or, length, replicate, slice_get, slice_set, true, ℕ, ◌+◌, ◌<◌, ◌≡◌}
use Rattle.cxl_message.specs.declared.events.Cause.{Cause}
use Rattle.cxl_message.specs.declared.events.Event.{Event}
use Rattle.cxl_message.specs.Script.{ScriptValue}
use Rattle.choice_laws.specs.Answered.{next_answer}
use Rattle.coherence_model.specs.Choices.{Stream}
use Rattle.coherence_model.specs.Rules.{most_operations}
use Rattle.coherence_model.specs.Streams.{begun_count}
use Rattle.coherence_model.specs.Traces.{events_of}
use Rattle.driven_laws.specs.Reached.{IsReached}
use Rattle.machine.specs.Stands.{MachineRecord, StandsFor}
use Rattle.step_driver.specs.declared.table.StreamTable.{StreamTable}

-- ---- the table

-- the table before the first event: nothing began, and no host was asked
abbrev pub empty_table : StreamTable
empty_table = record { begun = replicate 64 0; offered = replicate 64 false; asked = replicate 16 false }

-- the counts with one more at a place
abbrev pub one_counted : ℕ → List ℕ → List ℕ
one_counted s counts = slice_set counts s (get_or counts s 0 + 1)

-- the counts after a cause
abbrev pub counts_after : Cause → List ℕ → List ℕ
counts_after (Cause.Op s _ _) counts = one_counted s counts
counts_after (Cause.Take _ _) counts = counts
counts_after (Cause.Act _) counts = counts

-- the table after an event: an operation that it begins is counted, and its agent wasn't asked since
abbrev pub noted : Event → StreamTable → StreamTable
noted e s = record { begun = counts_after e.cause s.begun; offered = s.offered; asked = slice_set s.asked e.agent false }

-- the stream of a cause, if it begins an operation, has a count that may rise
abbrev pub MayCount : Cause → List ℕ → Type 0
MayCount (Cause.Op s _ _) counts = (s < 64) × (get_or counts s 0 < most_operations)
MayCount (Cause.Take _ _) counts = Unit {0}
MayCount (Cause.Act _) counts = Unit {0}

-- ---- what it says of a trace

-- for each stream it is counted how many operations it began
abbrev pub IsCounted : ScriptValue → List ℕ → List Event → Type 0
IsCounted script counts t = (s h : ℕ) → slice_get script.setup.streams s ≡ Some h → get_or counts s 0 ≡ begun_count s (events_of h t)

-- how many there are where a test holds
abbrev pub one_if : Bool → ℕ
one_if b = cond b 1 0

-- a stream of a script
pub record IsStreamOf (script : ScriptValue) (y : Stream) : Type 0 where
  pub host : slice_get script.setup.streams y.number ≡ Some y.host
  pub operations : slice_get script.operations y.number ≡ Some y.operations

-- the table says whether a stream's host offers its next operation
abbrev pub IsTold : ScriptValue → List Bool → List Event → Stream → Type 0
IsTold script offered t y = length (next_answer script t y) ≡ one_if (get_or offered y.number false)

-- it says so of the streams of each host that was asked since its last event
abbrev pub IsKnown : ScriptValue → StreamTable → List Event → Type 0
IsKnown script s t = (y : Stream) → IsStreamOf script y → get_or s.asked y.host false ≡ true → IsTold script s.offered t y

-- it says so of all streams
abbrev pub IsAsked : ScriptValue → List Bool → List Event → Type 0
IsAsked script offered t = (y : Stream) → IsStreamOf script y → IsTold script offered t y

-- the machine stands for a trace that driving the script comes to, and the table says how far its streams are
pub record IsKept (script : ScriptValue) (machine : MachineRecord) (s : StreamTable) (t : List Event) : Type 0 where
  pub stands : StandsFor machine script.setup script.opening t
  pub reached : IsReached script t
  pub counted : IsCounted script s.begun t
  pub known : IsKnown script s t
  pub sized : length s.begun ≡ 64
  pub offers_sized : length s.offered ≡ 64

-- a stream of a script, with its number and how many operations it began
pub record IsNext (script : ScriptValue) (y : Stream) (stream begun : ℕ) (t : List Event) : Type 0 where
  pub number : y.number ≡ stream
  pub of_script : IsStreamOf script y
  pub counted : begun ≡ begun_count y.number (events_of y.host t)
