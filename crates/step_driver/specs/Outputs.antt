-- What the driving of a script writes. Every rule here is an own rule.
use Rattle.std.specs.Prelude.{Bool, List, Option, false, length, reverse, true, ℕ, ◌&&◌, ◌==◌, ◌≡◌}
use Rattle.coherence_model.specs.Driven.{driven_trace, serial_trace}
use Rattle.cxl_codec.specs.Traces.{trace_bytes_in}
use Rattle.cxl_codec.specs.VersionOne.{setup_fits_version_one}
use Rattle.cxl_codec.specs.declared.versions.Version.{Version}
use Rattle.cxl_message.specs.Script.{ScriptValue}
use Rattle.cxl_message.specs.declared.events.Event.{Event}
use Rattle.step_driver.specs.Schedules.{target}
use Rattle.step_driver.specs.declared.schedules.Schedule.{Schedule}
use Rattle.trace_stream.specs.Writing.{HasBegunIn, IsUnused, WritesFront, WritesTraceIn, Writing}

-- whether version 1 has room for a script: no stream has a name, and there are at most 64 tags
abbrev pub fits_version_one : ScriptValue → Bool
fits_version_one script = setup_fits_version_one script.setup && (length script.names == 0)

-- version 1 where it has room, else version 2
abbrev pub version_if : Bool → Version
version_if true = Version.One
version_if false = Version.Two

-- the version of a script's traces: 2 exactly where the script names a stream or has more than 64 tags
abbrev pub version_of : ScriptValue → Version
version_of script = version_if (fits_version_one script)

-- a writer has got nothing, and has the version and the names of a script
pub record IsNewFor (script : ScriptValue) (writing : Writing) : Type 0 where
  pub unused : IsUnused writing
  pub version : writing.version ≡ version_of script
  pub names : writing.names ≡ script.names

-- since the sink had `start`, a writer has got the header of a script's setup, the names of its streams, its opening and these events: the first of their bytes went, and the others wait
abbrev pub HasPut : (start : Option (List ℕ)) → Writing → ScriptValue → List Event → Type 0
HasPut start writing script events = HasBegunIn start writing (version_of script) script.setup script.names script.opening events

-- the bytes of a script's setup, names and opening and of these events, oldest first, as a trace
abbrev pub trace_with : ScriptValue → List Event → List ℕ
trace_with script events = trace_bytes_in (version_of script) script.setup script.names script.opening events

-- ---- a trace with a script's setup, names and opening, and these events, newest first

-- its bytes
abbrev pub bytes_with : ScriptValue → List Event → List ℕ
bytes_with script t = trace_with script (reverse t)

-- since the sink had `start`, it went to the sink, and nothing else: a reader reads it as these
abbrev pub WritesWith : (start gone : Option (List ℕ)) → ScriptValue → List Event → Type 0
WritesWith start gone script t = WritesTraceIn start gone (version_of script) script.setup script.names script.opening (reverse t)

-- since the sink had `start`, its first bytes went to it, and nothing else
abbrev pub WritesFrontWith : (start gone : Option (List ℕ)) → ScriptValue → List Event → Type 0
WritesFrontWith start gone script t = WritesFront start gone (bytes_with script t)

-- ---- the driven trace

abbrev pub driven_bytes : ScriptValue → List ℕ
driven_bytes script = bytes_with script (driven_trace script)

abbrev pub WritesDriven : (start gone : Option (List ℕ)) → ScriptValue → Type 0
WritesDriven start gone script = WritesWith start gone script (driven_trace script)

abbrev pub WritesDrivenFront : (start gone : Option (List ℕ)) → ScriptValue → Type 0
WritesDrivenFront start gone script = WritesFrontWith start gone script (driven_trace script)

-- ---- the serial trace

abbrev pub WritesSerial : (start gone : Option (List ℕ)) → ScriptValue → Type 0
WritesSerial start gone script = WritesWith start gone script (serial_trace script)

abbrev pub WritesSerialFront : (start gone : Option (List ℕ)) → ScriptValue → Type 0
WritesSerialFront start gone script = WritesFrontWith start gone script (serial_trace script)

-- ---- the trace that a schedule puts

abbrev pub WritesTarget : (start gone : Option (List ℕ)) → Schedule → ScriptValue → Type 0
WritesTarget start gone schedule script = WritesWith start gone script (target schedule script)

abbrev pub WritesTargetFront : (start gone : Option (List ℕ)) → Schedule → ScriptValue → Type 0
WritesTargetFront start gone schedule script = WritesFrontWith start gone script (target schedule script)
