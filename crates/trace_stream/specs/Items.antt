-- The items of a trace, and what bytes are read as. Every rule here is an own rule.
use Rattle.std.specs.Prelude.{◌≡◌, ℕ, ◌+◌, ◌==◌, ◌&&◌, ◌<◌, ◌^◌, List, [], ◌∷◌, length, Bool, true, false, not, nat_le, nat_lt, Option, Some, None, Result, Ok, Err, if◌then◌else◌}
use Rattle.std.specs.Option.{option_map_or}
use Rattle.cxl_message.specs.Setup.{Configuration}
use Rattle.cxl_message.specs.Codes.{bytes_eq}
use Rattle.cxl_message.specs.Opening.{zero_bytes}
use Rattle.cxl_message.specs.declared.identifiers.Bytes64.{Bytes64}
use Rattle.cxl_codec.specs.declared.refusals.DecodeRefusal.{DecodeRefusal}
use Rattle.cxl_codec.specs.Cells.{Cell}
use Rattle.cxl_codec.specs.declared.versions.Version.{Version}
use Rattle.cxl_codec.specs.Header.{HeaderFitsIn, header_cells_in}
use Rattle.cxl_codec.specs.NameRecord.{NameFits, name_cells}
use Rattle.cxl_codec.specs.Openings.{opening_cells, OpeningFits}
use Rattle.cxl_codec.specs.Events.{EventFitsIn, event_cells_in}
use Rattle.cxl_codec.specs.EndRecord.{end_cells, EndFits}
use Rattle.cxl_codec.specs.Grammar.{Answers}
use Rattle.trace_stream.specs.declared.items.Item.{Item}
use Rattle.trace_stream.specs.declared.items.Found.{Found}
use Rattle.trace_stream.specs.declared.rooms.Room.{Room}
use Rattle.trace_stream.specs.declared.items.Reason.{Reason}
use Rattle.trace_stream.specs.declared.items.TraceFault.{TraceFault}
use Rattle.trace_stream.specs.declared.stages.Stage.{Stage}

-- the version of a trace at a stage, where it is known
abbrev pub version_of : Stage → Version
version_of Stage.Start = Version.One
version_of (Stage.Names streams lines next) = Version.Two
version_of (Stage.Openings version lines next) = version
version_of (Stage.Events version count) = version
version_of (Stage.Ended count) = Version.One

-- the record of an item, in a version
abbrev pub item_cells : Version → Item → List Cell
item_cells version (Item.Header own setup) = header_cells_in own setup
item_cells version (Item.Name stream name) = name_cells (stream, name.items)
item_cells version (Item.Opened line bytes) = opening_cells (line, bytes)
item_cells version (Item.Event e) = event_cells_in version e
item_cells version (Item.End count) = end_cells count
item_cells version Item.More = []

-- the record of an item that comes at a stage
abbrev pub cells_at : Stage → Item → List Cell
cells_at stage item = item_cells (version_of stage) item

-- how many bytes an item has that comes at a stage
abbrev pub item_length : Stage → Item → ℕ
item_length stage item = length (cells_at stage item)

-- a record that comes first: a header
abbrev pub IsFirst : Item → Type 0
IsFirst (Item.Header version setup) = HeaderFitsIn version setup
IsFirst (Item.Name stream name) = ⊥
IsFirst (Item.Opened line bytes) = ⊥
IsFirst (Item.Event e) = ⊥
IsFirst (Item.End count) = ⊥
IsFirst Item.More = ⊥

-- a record that comes where no line is opened any more: an event or the end
abbrev pub IsLater : Version → Item → Type 0
IsLater version (Item.Header own setup) = ⊥
IsLater version (Item.Name stream name) = ⊥
IsLater version (Item.Opened line bytes) = ⊥
IsLater version (Item.Event e) = EventFitsIn version e
IsLater version (Item.End count) = EndFits count
IsLater version Item.More = ⊥

-- a record that comes where lines may be opened: an opening, an event or the end
abbrev pub IsNext : Version → Item → Type 0
IsNext version (Item.Header own setup) = ⊥
IsNext version (Item.Name stream name) = ⊥
IsNext version (Item.Opened line bytes) = OpeningFits (line, bytes)
IsNext version (Item.Event e) = EventFitsIn version e
IsNext version (Item.End count) = EndFits count
IsNext version Item.More = ⊥

-- a record that comes where streams may be named, which is in version 2: a name, an opening, an event or the end
abbrev pub IsNamed : Item → Type 0
IsNamed (Item.Header own setup) = ⊥
IsNamed (Item.Name stream name) = NameFits (stream, name.items)
IsNamed (Item.Opened line bytes) = OpeningFits (line, bytes)
IsNamed (Item.Event e) = EventFitsIn Version.Two e
IsNamed (Item.End count) = EndFits count
IsNamed Item.More = ⊥

-- the records that may come at a stage, by their bytes alone
abbrev pub Allows : Stage → Item → Type 0
Allows Stage.Start item = IsFirst item
Allows (Stage.Names streams lines next) item = IsNamed item
Allows (Stage.Openings version lines next) item = IsNext version item
Allows (Stage.Events version count) item = IsLater version item
Allows (Stage.Ended count) item = ⊥

-- how many events were read
abbrev pub event_count : Stage → ℕ
event_count Stage.Start = 0
event_count (Stage.Names streams lines next) = 0
event_count (Stage.Openings version lines next) = 0
event_count (Stage.Events version count) = count
event_count (Stage.Ended count) = count

-- how many streams the setup has, as long as streams may be named
abbrev pub streams_of : Stage → ℕ
streams_of Stage.Start = 0
streams_of (Stage.Names streams lines next) = streams
streams_of (Stage.Openings version lines next) = 0
streams_of (Stage.Events version count) = 0
streams_of (Stage.Ended count) = 0

-- how many lines the setup has, as long as lines may be opened
abbrev pub lines_of : Stage → ℕ
lines_of Stage.Start = 0
lines_of (Stage.Names streams lines next) = lines
lines_of (Stage.Openings version lines next) = lines
lines_of (Stage.Events version count) = 0
lines_of (Stage.Ended count) = 0

-- the stage after a header: in version 2 names may come
abbrev pub after_header : Version → Configuration → Stage
after_header Version.One setup = Stage.Openings Version.One setup.lines 0
after_header Version.Two setup = Stage.Names (length setup.streams) setup.lines 0

-- the stage after an item
abbrev pub advance : Stage → Item → Stage
advance stage (Item.Header version setup) = after_header version setup
advance stage (Item.Name stream name) = Stage.Names (streams_of stage) (lines_of stage) (stream + 1)
advance stage (Item.Opened line bytes) = Stage.Openings (version_of stage) (lines_of stage) (line.0 + 1)
advance stage (Item.Event e) = Stage.Events (version_of stage) (event_count stage + 1)
advance stage (Item.End count) = Stage.Ended count
advance stage Item.More = stage

-- whether a stream may be named: it exists and is greater than those before it
abbrev pub may_name : Stage → ℕ → Bool
may_name Stage.Start stream = false
may_name (Stage.Names streams lines next) stream = nat_le next stream && nat_lt stream streams
may_name (Stage.Openings version lines next) stream = false
may_name (Stage.Events version count) stream = false
may_name (Stage.Ended count) stream = false

-- whether a line exists among so many, is greater than those before it, and these bytes aren't all zeros
abbrev pub opens_well : ℕ → ℕ → ℕ → Bytes64 → Bool
opens_well lines next line bytes = nat_le next line && nat_lt line lines && not (bytes_eq bytes zero_bytes)

-- whether a line may be opened with these bytes
abbrev pub may_open : Stage → ℕ → Bytes64 → Bool
may_open Stage.Start line bytes = false
may_open (Stage.Names streams lines next) line bytes = opens_well lines 0 line bytes
may_open (Stage.Openings version lines next) line bytes = opens_well lines next line bytes
may_open (Stage.Events version count) line bytes = false
may_open (Stage.Ended count) line bytes = false

-- why a whole record is refused at its first byte, if it is: a name or an opening out of order, or another number of events
abbrev pub record_fault : Stage → Item → Option Reason
record_fault stage (Item.Header version setup) = None
record_fault stage (Item.Name stream name) = if may_name stage stream then None else Some Reason.Name
record_fault stage (Item.Opened line bytes) = if may_open stage line.0 bytes then None else Some Reason.Opening
record_fault stage (Item.Event e) = None
record_fault stage (Item.End count) = if count == event_count stage then None else Some Reason.Count
record_fault stage Item.More = None

-- a fault at a place
abbrev pub fault_at : ℕ → Reason → TraceFault
fault_at place reason = record { at = place; reason = reason }

-- what the answer on the bytes from a place on comes to: an item, more to come, or a fault
abbrev pub outcome_of : Stage → ℕ → Result (Item × ℕ) DecodeRefusal → Result Item TraceFault
outcome_of stage place (Ok found) = option_map_or (λ reason. Err (fault_at place reason)) (record_fault stage found.0) (Ok found.0)
outcome_of stage place (Err DecodeRefusal.Short) = Ok Item.More
outcome_of stage place (Err (DecodeRefusal.Kind at)) = Err (fault_at (place + at) Reason.Kind)
outcome_of stage place (Err (DecodeRefusal.Field at which)) = Err (fault_at (place + at) (Reason.Field which))

-- what the bytes behind the end record are
abbrev pub trailing : ℕ → List ℕ → Result Item TraceFault
trailing place [] = Ok Item.More
trailing place (byte ∷ bytes) = Err (fault_at place Reason.Trailing)

-- the outcome is what the records that may come at a stage say of the bytes from a place on
pub record ReadsAs (stage : Stage) (place : ℕ) (bytes : List ℕ) (outcome : Result Item TraceFault) : Type 0 where
  pub answer : Result (Item × ℕ) DecodeRefusal
  pub answered : Answers (Allows stage) (cells_at stage) bytes answer
  pub comes_to : outcome ≡ outcome_of stage place answer

-- the outcome is what the bytes from a place on say at a stage
abbrev pub Says : Stage → ℕ → List ℕ → Result Item TraceFault → Type 0
Says Stage.Start place bytes outcome = ReadsAs Stage.Start place bytes outcome
Says (Stage.Names streams lines next) place bytes outcome = ReadsAs (Stage.Names streams lines next) place bytes outcome
Says (Stage.Openings version lines next) place bytes outcome = ReadsAs (Stage.Openings version lines next) place bytes outcome
Says (Stage.Events version count) place bytes outcome = ReadsAs (Stage.Events version count) place bytes outcome
Says (Stage.Ended count) place bytes outcome = outcome ≡ trailing place bytes

-- the item that was found, with what was written to the room
abbrev pub item_of : Room → Found → Item
item_of room Found.Header = Item.Header room.version room.setup
item_of room Found.Name = Item.Name room.stream room.name
item_of room Found.Opened = Item.Opened room.line room.bytes
item_of room Found.Event = Item.Event room.event
item_of room (Found.End count) = Item.End count
item_of room Found.More = Item.More

-- the same of an answer with a length
abbrev pub answer_of : Room → Result (Found × ℕ) DecodeRefusal → Result (Item × ℕ) DecodeRefusal
answer_of room (Ok found) = Ok (item_of room found.0, found.1)
answer_of room (Err refusal) = Err refusal

-- the same of an outcome
abbrev pub outcome_with : Room → Result Found TraceFault → Result Item TraceFault
outcome_with room (Ok found) = Ok (item_of room found)
outcome_with room (Err fault) = Err fault

-- what was found, without its length
abbrev pub found_of : Result (Found × ℕ) TraceFault → Result Found TraceFault
found_of (Ok found) = Ok found.0
found_of (Err fault) = Err fault

-- something was found
abbrev pub IsItem : Found → Type 0
IsItem Found.Header = Unit {0}
IsItem Found.Name = Unit {0}
IsItem Found.Opened = Unit {0}
IsItem Found.Event = Unit {0}
IsItem (Found.End count) = Unit {0}
IsItem Found.More = ⊥

-- the end record wasn't read
abbrev pub IsOpen : Stage → Type 0
IsOpen Stage.Start = Unit {0}
IsOpen (Stage.Names streams lines next) = Unit {0}
IsOpen (Stage.Openings version lines next) = Unit {0}
IsOpen (Stage.Events version count) = Unit {0}
IsOpen (Stage.Ended count) = ⊥

-- whether it is version 1
abbrev pub is_one : Version → Bool
is_one Version.One = true
is_one Version.Two = false

-- whether an event of version 1 may come next
abbrev pub takes_events : Stage → Bool
takes_events Stage.Start = false
takes_events (Stage.Names streams lines next) = false
takes_events (Stage.Openings version lines next) = is_one version
takes_events (Stage.Events version count) = is_one version
takes_events (Stage.Ended count) = false

-- whether an opening may come next
abbrev pub takes_openings : Stage → Bool
takes_openings Stage.Start = false
takes_openings (Stage.Names streams lines next) = true
takes_openings (Stage.Openings version lines next) = true
takes_openings (Stage.Events version count) = false
takes_openings (Stage.Ended count) = false

-- whether the first of the bytes is this one
abbrev pub begins_with : List ℕ → ℕ → Bool
begins_with [] byte = false
begins_with (first ∷ bytes) byte = first == byte

-- a stream that was named is one of at most 64, and a line that was opened one of at most 65,536
abbrev pub IsBelow : Room → Found → Type 0
IsBelow room Found.Header = Unit {0}
IsBelow room Found.Name = room.stream < 64
IsBelow room Found.Opened = room.line.0 < 2 ^ 16
IsBelow room Found.Event = Unit {0}
IsBelow room (Found.End count) = Unit {0}
IsBelow room Found.More = Unit {0}
