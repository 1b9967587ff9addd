-- What whole inputs are read as. Every rule here is an own rule.
use Rattle.std.specs.Prelude.{◌≡◌, ◌⊎◌, ℕ, ◌+◌, List, [], ◌∷◌, ◌++◌, length, map, IsTrue, None, IfSome, Result, Ok, Err}
use Rattle.cxl_message.specs.Setup.{Configuration}
use Rattle.cxl_message.specs.Opening.{IsOpening, opening_fits}
use Rattle.cxl_message.specs.declared.identifiers.Line.{Line}
use Rattle.cxl_message.specs.declared.identifiers.Bytes64.{Bytes64}
use Rattle.cxl_message.specs.declared.events.Event.{Event}
use Rattle.cxl_codec.specs.Cells.{bytes_of}
use Rattle.cxl_message.specs.Names.{names_ascend_from, names_fit}
use Rattle.cxl_codec.specs.declared.versions.Version.{Version}
use Rattle.cxl_codec.specs.Traces.{TraceFitsIn, trace_bytes_in}
use Rattle.trace_stream.specs.declared.items.Item.{Item}
use Rattle.trace_stream.specs.declared.items.TraceFault.{TraceFault}
use Rattle.trace_stream.specs.declared.stages.Stage.{Stage}
use Rattle.trace_stream.specs.Items.{advance, cells_at, record_fault, Allows, Says}
use Rattle.trace_stream.specs.Readings.{Reading, end_of}

-- the bytes of an item that comes at a stage
abbrev pub item_bytes : Stage → Item → List ℕ
item_bytes stage item = bytes_of (cells_at stage item)

-- the stage after some items
abbrev pub stage_after : Stage → List Item → Stage
stage_after stage [] = stage
stage_after stage (item ∷ items) = stage_after (advance stage item) items

-- the bytes of some items from a stage on, one after the other
abbrev pub bytes_from : Stage → List Item → List ℕ
bytes_from stage [] = []
bytes_from stage (item ∷ items) = item_bytes stage item ++ bytes_from (advance stage item) items

-- the bytes of some items from the first byte on
abbrev pub items_bytes : List Item → List ℕ
items_bytes items = bytes_from Stage.Start items

-- each of the items is allowed and right where it stands
abbrev pub Follow : Stage → List Item → Type 0
Follow stage [] = Unit {0}
Follow stage (item ∷ items) = Allows stage item × (record_fault stage item ≡ None) × Follow (advance stage item) items

-- the bytes are these items, and then others
pub record IsRead (bytes : List ℕ) (items : List Item) (rest : List ℕ) : Type 0 where
  pub spelled : bytes ≡ items_bytes items ++ rest
  pub follow : Follow Stage.Start items

-- what the bytes behind these items say
abbrev pub SaysAfter : List Item → List ℕ → Result Item TraceFault → Type 0
SaysAfter items rest outcome = Says (stage_after Stage.Start items) (length (items_bytes items)) rest outcome

-- a reader that was fed these bytes has given these items, and keeps the rest
pub record HasRead (bytes : List ℕ) (items : List Item) (reading : Reading) : Type 0 where
  pub read : IsRead bytes items reading.waiting
  pub stage : reading.stage ≡ stage_after Stage.Start items
  pub place : reading.place ≡ length (items_bytes items)
  pub fault : IfSome reading.fault (λ fault. SaysAfter items reading.waiting (Err fault))

-- the items after an answer
abbrev pub items_after : List Item → Result Item TraceFault → List Item
items_after items (Ok (Item.Header version setup)) = items ++ Item.Header version setup ∷ []
items_after items (Ok (Item.Name stream name)) = items ++ Item.Name stream name ∷ []
items_after items (Ok (Item.Opened line bytes)) = items ++ Item.Opened line bytes ∷ []
items_after items (Ok (Item.Event e)) = items ++ Item.Event e ∷ []
items_after items (Ok (Item.End count)) = items ++ Item.End count ∷ []
items_after items (Ok Item.More) = items
items_after items (Err fault) = items

-- the names of a trace of a version: none in version 1, and else of its streams, in order
abbrev pub NamesFit : Version → ℕ → List (ℕ × List ℕ) → Type 0
NamesFit Version.One streams names = names ≡ []
NamesFit Version.Two streams names = IsTrue (names_ascend_from 0 names) × IsTrue (names_fit streams names)

-- the bytes are the trace of a version, a setup, names, an opening and events
pub record IsTraceIn (bytes : List ℕ) (version : Version) (setup : Configuration) (names : List (ℕ × List ℕ)) (opening : List (Line × Bytes64)) (events : List Event) : Type 0 where
  pub fits : TraceFitsIn version setup names opening events
  pub named : NamesFit version (length setup.streams) names
  pub ascending : IsOpening opening
  pub lines : IsTrue (opening_fits setup.lines opening)
  pub spelled : bytes ≡ trace_bytes_in version setup names opening events

-- the same in version 1
abbrev pub IsTrace : List ℕ → Configuration → List (Line × Bytes64) → List Event → Type 0
IsTrace bytes setup opening events = IsTraceIn bytes Version.One setup [] opening events

-- the item of a name
abbrev pub name_item : ℕ × List ℕ → Item
name_item named = Item.Name named.0 (record { items = named.1 })

-- the items of a trace
abbrev pub trace_items_in : Version → Configuration → List (ℕ × List ℕ) → List (Line × Bytes64) → List Event → List Item
trace_items_in version setup names opening events =
    Item.Header version setup ∷ (map name_item names ++ (map (λ pair. Item.Opened pair.0 pair.1) opening ++ (map Item.Event events ++ Item.End (length events) ∷ [])))

-- the same in version 1
abbrev pub trace_items : Configuration → List (Line × Bytes64) → List Event → List Item
trace_items setup opening events = trace_items_in Version.One setup [] opening events

-- the bytes are read as these items, all of them, and with them a trace of so many events has ended
pub record IsReadWhole (bytes : List ℕ) (items : List Item) (count : ℕ) : Type 0 where
  pub read : IsRead bytes items []
  pub ended : stage_after Stage.Start items ≡ Stage.Ended count

-- the bytes are a trace of so many events, and these are its items
pub record IsTraceOf (bytes : List ℕ) (items : List Item) (count : ℕ) : Type 0 where
  pub version : Version
  pub setup : Configuration
  pub names : List (ℕ × List ℕ)
  pub opening : List (Line × Bytes64)
  pub events : List Event
  pub trace : IsTraceIn bytes version setup names opening events
  pub same : items ≡ trace_items_in version setup names opening events
  pub number : count ≡ length events

-- the fault that the bytes behind some items have where nothing follows them: the one that they say, or that the trace is short
abbrev pub Fails : Stage → ℕ → List ℕ → TraceFault → Type 0
Fails stage place rest fault = Says stage place rest (Err fault) ⊎ (Says stage place rest (Ok Item.More) × (end_of stage (place + length rest) ≡ Err fault))

-- the bytes are no trace, and this is the first fault
pub record HasFault (bytes : List ℕ) (fault : TraceFault) : Type 0 where
  pub items : List Item
  pub rest : List ℕ
  pub read : IsRead bytes items rest
  pub fails : Fails (stage_after Stage.Start items) (length (items_bytes items)) rest fault
