-- What a trace is migrated to: the trace of version 2 with the same setup, names, opening and events. Every rule here is an own rule.
use Rattle.std.specs.Prelude.{◌≡◌, ℕ, List, [], Option}
use Rattle.cxl_message.specs.Setup.{Configuration}
use Rattle.cxl_message.specs.declared.events.Event.{Event}
use Rattle.cxl_message.specs.declared.identifiers.Bytes64.{Bytes64}
use Rattle.cxl_message.specs.declared.identifiers.Line.{Line}
use Rattle.cxl_codec.specs.Traces.{trace_bytes_in}
use Rattle.cxl_codec.specs.declared.versions.Version.{Version}
use Rattle.trace_stream.specs.Runs.{IsTraceIn}
use Rattle.trace_stream.specs.Writing.{GoesOn, HasBegunIn, WritesFront, WritesTraceIn, Writing}

-- the input is a trace of either version, and the output the bytes of version 2 of the same setup, names, opening and events
pub record IsMigrated (input output : List ℕ) : Type 0 where
  pub version : Version
  pub setup : Configuration
  pub names : List (ℕ × List ℕ)
  pub opening : List (Line × Bytes64)
  pub events : List Event
  pub trace : IsTraceIn input version setup names opening events
  pub same : output ≡ trace_bytes_in Version.Two setup names opening events

-- since the sink had `start`, what the input is migrated to went to it, and nothing else: a reader reads it as the trace of version 2 of the input's setup, names, opening and events
pub record Migrates (start gone : Option (List ℕ)) (input : List ℕ) : Type 0 where
  pub version : Version
  pub setup : Configuration
  pub names : List (ℕ × List ℕ)
  pub opening : List (Line × Bytes64)
  pub events : List Event
  pub trace : IsTraceIn input version setup names opening events
  pub written : WritesTraceIn start gone Version.Two setup names opening events

-- since the sink had `start`, the first bytes of what the input is migrated to went to it, perhaps none, and nothing else
abbrev pub MigratesFront : Option (List ℕ) → Option (List ℕ) → List ℕ → Type 0
MigratesFront start gone input = (output : List ℕ) → IsMigrated input output → WritesFront start gone output

-- ---- on the way

-- the input is a trace
pub record IsSomeTrace (input : List ℕ) : Type 0 where
  pub version : Version
  pub setup : Configuration
  pub names : List (ℕ × List ℕ)
  pub opening : List (Line × Bytes64)
  pub events : List Event
  pub trace : IsTraceIn input version setup names opening events

-- whatever trace the writer is in, it goes on by the events of the input
abbrev pub PutsEvents : List ℕ → Writing → Writing → Type 0
PutsEvents input old new =
    (version : Version) (setup : Configuration) (names : List (ℕ × List ℕ)) (opening : List (Line × Bytes64)) (events : List Event) → IsTraceIn input version setup names opening events → GoesOn old new events

-- whatever trace the writer has begun, it breaks off while the events of the input are put
abbrev pub PutsEventsShort : List ℕ → Writing → Writing → Type 0
PutsEventsShort input old new =
    (version : Version) (setup : Configuration) (names : List (ℕ × List ℕ)) (opening : List (Line × Bytes64)) (events : List Event) → IsTraceIn input version setup names opening events
    → (start : Option (List ℕ)) → HasBegunIn start old Version.Two setup names opening [] → WritesFront start new.out.gone (trace_bytes_in Version.Two setup names opening events)
