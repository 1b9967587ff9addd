-- How far a writer of traces is, and what it has written. Every rule here is an own rule.
use Rattle.std.specs.Prelude.{◌≡◌, ℕ, ◌+◌, ◌*◌, List, [], ◌++◌, length, IsTrue, Option}
use Rattle.std.specs.List.{flat_map, AllByRecursion}
use Rattle.std.specs.Io.KnownBytes.{Appends}
use Rattle.cxl_message.specs.Setup.{Configuration}
use Rattle.cxl_message.specs.Opening.{IsOpening, opening_fits}
use Rattle.cxl_message.specs.declared.identifiers.Line.{Line}
use Rattle.cxl_message.specs.declared.identifiers.Bytes64.{Bytes64}
use Rattle.cxl_message.specs.declared.events.Event.{Event}
use Rattle.cxl_codec.specs.declared.versions.Version.{Version}
use Rattle.cxl_codec.specs.Header.{HeaderFitsIn}
use Rattle.cxl_codec.specs.NameRecord.{NameFits}
use Rattle.cxl_codec.specs.Openings.{OpeningFits}
use Rattle.cxl_codec.specs.Events.{EventFitsIn}
use Rattle.cxl_codec.specs.Traces.{event_bytes_in, header_bytes_in, name_bytes, opening_bytes, trace_bytes_in}
use Rattle.trace_stream.specs.Buffers.{Buffer, Puts, PutsFront, empty_buffer}
use Rattle.trace_stream.specs.Runs.{IsReadWhole, IsTraceIn, NamesFit, trace_items_in}
use Rattle.trace_stream.specs.declared.progress.Progress.{Progress}

-- a writer of traces: what has gone and what waits, how far the trace is, the number of its events, and the version and the names that it was given
pub record Writing : Type 0 where
  pub out : Buffer
  pub progress : Progress
  pub count : ℕ
  pub version : Version
  pub names : List (ℕ × List ℕ)

-- a writer of a version, with these names, that has got nothing
abbrev pub new_writing_in : Version → List (ℕ × List ℕ) → ℕ → Option (List ℕ) → ℕ → ℕ → Writing
new_writing_in version names sink gone faults highest =
    record { out = empty_buffer sink gone faults highest; progress = Progress.New; count = 0; version = version; names = names }

-- the same of version 1
abbrev pub new_writing : ℕ → Option (List ℕ) → ℕ → ℕ → Writing
new_writing sink gone faults highest = new_writing_in Version.One [] sink gone faults highest

-- the writer has got nothing
pub record IsUnused (writing : Writing) : Type 0 where
  pub progress : writing.progress ≡ Progress.New
  pub none : writing.count ≡ 0
  pub empty : writing.out.waiting ≡ []

-- a writer of version 1 has got nothing
pub record IsNew (writing : Writing) : Type 0 where
  pub unused : IsUnused writing
  pub version : writing.version ≡ Version.One
  pub names : writing.names ≡ []

-- the bytes before the first event: the header, the names and the openings
abbrev pub begin_bytes_in : Version → Configuration → List (ℕ × List ℕ) → List (Line × Bytes64) → List ℕ
begin_bytes_in version setup names opening = header_bytes_in version setup ++ (flat_map name_bytes names ++ flat_map opening_bytes opening)

-- the bytes up to and with these events, before the end record
abbrev pub front_bytes_in : Version → Configuration → List (ℕ × List ℕ) → List (Line × Bytes64) → List Event → List ℕ
front_bytes_in version setup names opening events = begin_bytes_in version setup names opening ++ flat_map (event_bytes_in version) events

-- what comes before the end record of a trace: a setup that has a header, names and an opening in order, of the setup's streams and lines, and events of which each has a record
pub record TraceParts (version : Version) (setup : Configuration) (names : List (ℕ × List ℕ)) (opening : List (Line × Bytes64)) (events : List Event) : Type 0 where
  pub limits : HeaderFitsIn version setup
  pub named : NamesFit version (length setup.streams) names
  pub ascending : IsOpening opening
  pub lines : IsTrue (opening_fits setup.lines opening)
  pub each_name : AllByRecursion NameFits names
  pub each_opening : AllByRecursion OpeningFits opening
  pub each_event : AllByRecursion (EventFitsIn version) events

-- since the sink had `start`, a writer of a version has got the header of a setup, names, openings and these events: the first of their bytes went, and the others wait
pub record HasBegunIn (start : Option (List ℕ)) (writing : Writing) (version : Version) (setup : Configuration) (names : List (ℕ × List ℕ)) (opening : List (Line × Bytes64)) (events : List Event) : Type 0 where
  pub puts : Puts start writing.out.gone [] writing.out.waiting (front_bytes_in version setup names opening events)
  pub number : writing.count ≡ length events
  pub of_version : writing.version ≡ version
  pub parts : TraceParts version setup names opening events

-- the same of version 1
abbrev pub HasBegun : Option (List ℕ) → Writing → Configuration → List (Line × Bytes64) → List Event → Type 0
HasBegun start writing setup opening events = HasBegunIn start writing Version.One setup [] opening events

-- since the sink had `start`, the first bytes of these went to it, and nothing else
abbrev pub WritesFront : Option (List ℕ) → Option (List ℕ) → List ℕ → Type 0
WritesFront start gone bytes = PutsFront start gone [] bytes

-- since the sink had `start`, the first bytes of each trace that begins with these events went to it, and nothing else
abbrev pub WritesFrontOf : Option (List ℕ) → Option (List ℕ) → Version → Configuration → List (ℕ × List ℕ) → List (Line × Bytes64) → List Event → Type 0
WritesFrontOf start gone version setup names opening events = (more : List Event) → WritesFront start gone (trace_bytes_in version setup names opening (events ++ more))

-- since the sink had `start`, the bytes of a trace went to it, and nothing else; and a reader reads them as the trace's items, all of them, up to its end
pub record WritesTraceIn (start gone : Option (List ℕ)) (version : Version) (setup : Configuration) (names : List (ℕ × List ℕ)) (opening : List (Line × Bytes64)) (events : List Event) : Type 0 where
  pub went : Appends start gone (trace_bytes_in version setup names opening events)
  pub trace : IsTraceIn (trace_bytes_in version setup names opening events) version setup names opening events
  pub read : IsReadWhole (trace_bytes_in version setup names opening events) (trace_items_in version setup names opening events) (length events)

-- the same of version 1
abbrev pub WritesTrace : Option (List ℕ) → Option (List ℕ) → Configuration → List (Line × Bytes64) → List Event → Type 0
WritesTrace start gone setup opening events = WritesTraceIn start gone Version.One setup [] opening events

-- whatever trace a writer is in, it goes on by these events
abbrev pub GoesOn : Writing → Writing → List Event → Type 0
GoesOn old new more =
    (start : Option (List ℕ)) (version : Version) (setup : Configuration) (names : List (ℕ × List ℕ)) (opening : List (Line × Bytes64)) (events : List Event)
    → HasBegunIn start old version setup names opening events → HasBegunIn start new version setup names opening (events ++ more)

-- whatever trace a writer is in, it breaks off while these events are put
abbrev pub BreaksOff : Writing → Writing → List Event → Type 0
BreaksOff old new more =
    (start : Option (List ℕ)) (version : Version) (setup : Configuration) (names : List (ℕ × List ℕ)) (opening : List (Line × Bytes64)) (events : List Event)
    → HasBegunIn start old version setup names opening events → WritesFrontOf start new.out.gone version setup names opening (events ++ more)

-- whatever trace a writer is in, it ends
abbrev pub Ends : Writing → Writing → Type 0
Ends old new =
    (start : Option (List ℕ)) (version : Version) (setup : Configuration) (names : List (ℕ × List ℕ)) (opening : List (Line × Bytes64)) (events : List Event)
    → HasBegunIn start old version setup names opening events → WritesTraceIn start new.out.gone version setup names opening events

-- whatever trace a writer is in, it breaks off before it has ended
abbrev pub EndsShort : Writing → Writing → Type 0
EndsShort old new =
    (start : Option (List ℕ)) (version : Version) (setup : Configuration) (names : List (ℕ × List ℕ)) (opening : List (Line × Bytes64)) (events : List Event)
    → HasBegunIn start old version setup names opening events → WritesFront start new.out.gone (trace_bytes_in version setup names opening events)

-- how much the counts of a sink rise at most while the header and so many names and openings are put
abbrev pub begin_cost_in : List (ℕ × List ℕ) → List (Line × Bytes64) → ℕ
begin_cost_in names opening = 200 + 80 * length names + 140 * length opening

-- the same without names
abbrev pub begin_cost : List (Line × Bytes64) → ℕ
begin_cost opening = begin_cost_in [] opening

-- how much they rise at most while an event is put
abbrev pub event_cost : ℕ
event_cost = 800

-- how much they rise at most while the end record is put
abbrev pub end_cost : ℕ
end_cost = 20
