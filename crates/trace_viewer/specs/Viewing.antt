-- What a viewer has shown of the bytes that it was fed. Every rule here is an own rule.
use Rattle.std.specs.Prelude.{ℕ, ◌≡◌, ◌++◌, List, length, Option, Some, None, Err}
use Rattle.cxl_message.specs.Setup.{Configuration}
use Rattle.cxl_message.specs.declared.events.Event.{Event}
use Rattle.cxl_message.specs.declared.identifiers.Bytes64.{Bytes64}
use Rattle.cxl_message.specs.declared.identifiers.Line.{Line}
use Rattle.cxl_codec.specs.declared.versions.Version.{Version}
use Rattle.cxl_view.specs.Tallies.{Counts}
use Rattle.cxl_view.specs.Traces.{shown_bytes}
use Rattle.trace_stream.specs.declared.items.Item.{Item}
use Rattle.trace_stream.specs.declared.items.TraceFault.{TraceFault}
use Rattle.trace_stream.specs.declared.stages.Stage.{Stage}
use Rattle.trace_stream.specs.Readings.{IsDrained, Reading}
use Rattle.trace_stream.specs.Runs.{Fails, HasRead, IsRead, IsTraceIn, SaysAfter, items_bytes, stage_after}
use Rattle.trace_viewer.specs.declared.viewed.Viewed.{Viewed}
use Rattle.trace_viewer.specs.Items.{counts_in, shown_items}

-- ---- what the text of some bytes is

-- the bytes are a trace, of either version, with any names, and this is its whole text, tallies too
pub record IsShown (bytes text : List ℕ) : Type 0 where
  pub version : Version
  pub setup : Configuration
  pub names : List (ℕ × List ℕ)
  pub openings : List (Line × Bytes64)
  pub events : List Event
  pub trace : IsTraceIn bytes version setup names openings events
  pub shown : text ≡ shown_bytes version setup names openings events

-- the bytes have this first fault, and this is the text of the items before it
pub record IsFrontShown (bytes text : List ℕ) (fault : TraceFault) : Type 0 where
  pub items : List Item
  pub rest : List ℕ
  pub read : IsRead bytes items rest
  pub fails : Fails (stage_after Stage.Start items) (length (items_bytes items)) rest fault
  pub shown : text ≡ shown_items items

-- this is the text of some of the first items of the bytes
pub record IsSomeFront (bytes text : List ℕ) : Type 0 where
  pub items : List Item
  pub rest : List ℕ
  pub read : IsRead bytes items rest
  pub shown : text ≡ shown_items items

-- all that is shown of the bytes, and whether they are a trace
abbrev pub IsViewed : List ℕ → List ℕ → Viewed → Type 0
IsViewed bytes text Viewed.Whole = IsShown bytes text
IsViewed bytes text (Viewed.Fault fault) = IsFrontShown bytes text fault

-- ---- what a viewer has shown

-- what a viewer has read, and what it has counted of the events that it has shown
pub record Viewing : Type 0 where
  pub reading : Reading
  pub counted : Counts

-- the items of the bytes, up to those that wait, have this text, and their events are counted
pub record HasShownAll (bytes text : List ℕ) (viewing : Viewing) : Type 0 where
  pub items : List Item
  pub read : HasRead bytes items viewing.reading
  pub shown : text ≡ shown_items items
  pub counted : viewing.counted ≡ counts_in items

-- behind some items, which have this text, the bytes have this fault
pub record HasShownUpTo (fault : TraceFault) (bytes text : List ℕ) : Type 0 where
  pub items : List Item
  pub rest : List ℕ
  pub read : IsRead bytes items rest
  pub says : SaysAfter items rest (Err fault)
  pub shown : text ≡ shown_items items

-- all items were shown, or those before the fault that was met
abbrev pub HasShownUnless : Option TraceFault → List ℕ → List ℕ → Viewing → Type 0
HasShownUnless None bytes text viewing = HasShownAll bytes text viewing
HasShownUnless (Some fault) bytes text viewing = HasShownUpTo fault bytes text

-- a viewer that was fed these bytes has shown this text: that of their items, up to the bytes that wait or to their fault
pub record HasShown (bytes text : List ℕ) (viewing : Viewing) : Type 0 where
  pub shown : HasShownUnless viewing.reading.fault bytes text viewing
  pub drained : IsDrained viewing.reading

-- memory wasn't wanting: the viewer has shown the text of some bytes
abbrev pub IsViewing : Viewing → Type 0
IsViewing viewing = (bytes : List ℕ) × (text : List ℕ) × HasShown bytes text viewing

-- ---- what a call appends

-- something was appended, of which this holds
pub record AppendsSome (old new : List ℕ) (Holds : List ℕ → Type 0) : Type 0 where
  pub more : List ℕ
  pub appended : new ≡ old ++ more
  pub holds : Holds more
