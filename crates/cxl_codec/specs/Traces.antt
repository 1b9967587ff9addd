-- Whole traces. Every rule here is an own rule.
use Rattle.std.specs.Prelude.{◌≡◌, ℕ, List, [], ◌++◌, length}
use Rattle.std.specs.List.{flat_map, AllByRecursion}
use Rattle.cxl_message.specs.Setup.{Configuration}
use Rattle.cxl_message.specs.declared.identifiers.Line.{Line}
use Rattle.cxl_message.specs.declared.identifiers.Bytes64.{Bytes64}
use Rattle.cxl_message.specs.declared.events.Event.{Event}
use Rattle.cxl_codec.specs.declared.versions.Version.{Version}
use Rattle.cxl_codec.specs.Cells.{bytes_of}
use Rattle.cxl_codec.specs.Header.{HeaderFitsIn, header_cells_in}
use Rattle.cxl_codec.specs.Openings.{opening_cells, OpeningFits}
use Rattle.cxl_codec.specs.NameRecord.{NameFits, name_cells}
use Rattle.cxl_codec.specs.Events.{EventFitsIn, event_cells_in}
use Rattle.cxl_codec.specs.EndRecord.{end_cells, EndFits}

-- the bytes of a header
abbrev pub header_bytes_in : Version → Configuration → List ℕ
header_bytes_in version setup = bytes_of (header_cells_in version setup)

-- the same in version 1
abbrev pub header_bytes : Configuration → List ℕ
header_bytes setup = header_bytes_in Version.One setup

-- the bytes of a name record
abbrev pub name_bytes : ℕ × List ℕ → List ℕ
name_bytes named = bytes_of (name_cells named)

-- the bytes of an opening record
abbrev pub opening_bytes : Line × Bytes64 → List ℕ
opening_bytes opened = bytes_of (opening_cells opened)

-- the bytes of an event record
abbrev pub event_bytes_in : Version → Event → List ℕ
event_bytes_in version e = bytes_of (event_cells_in version e)

-- the same in version 1
abbrev pub event_bytes : Event → List ℕ
event_bytes e = event_bytes_in Version.One e

-- the bytes of an end record
abbrev pub end_bytes : ℕ → List ℕ
end_bytes count = bytes_of (end_cells count)

-- a trace: its header, the names, the openings, the events, the oldest first, and the end record with their number
abbrev pub trace_bytes_in : Version → Configuration → List (ℕ × List ℕ) → List (Line × Bytes64) → List Event → List ℕ
trace_bytes_in version setup names openings events =
    header_bytes_in version setup ++ (flat_map name_bytes names ++ flat_map opening_bytes openings) ++ flat_map (event_bytes_in version) events ++ end_bytes (length events)

-- the same in version 1, which has no names
abbrev pub trace_bytes : Configuration → List (Line × Bytes64) → List Event → List ℕ
trace_bytes setup openings events = trace_bytes_in Version.One setup [] openings events

-- a setup, names, openings and events that have a trace of a version
pub record TraceFitsIn (version : Version) (setup : Configuration) (names : List (ℕ × List ℕ)) (openings : List (Line × Bytes64)) (events : List Event) : Type 0 where
  pub limits : HeaderFitsIn version setup
  pub each_name : AllByRecursion NameFits names
  pub each_opening : AllByRecursion OpeningFits openings
  pub each_event : AllByRecursion (EventFitsIn version) events
  pub count : EndFits (length events)

-- the same in version 1
abbrev pub TraceFits : Configuration → List (Line × Bytes64) → List Event → Type 0
TraceFits setup openings events = TraceFitsIn Version.One setup [] openings events

-- the bytes of a trace determine its version, its setup, its names, its openings and its events
abbrev pub TraceIsDetermined : Type 0
TraceIsDetermined =
    (v w : Version) (s t : Configuration) (ns ms : List (ℕ × List ℕ)) (os ps : List (Line × Bytes64)) (es fs : List Event) → TraceFitsIn v s ns os es → TraceFitsIn w t ms ps fs
    → trace_bytes_in v s ns os es ≡ trace_bytes_in w t ms ps fs → (v ≡ w) × (s ≡ t) × (ns ≡ ms) × (os ≡ ps) × (es ≡ fs)
