-- Laws of what is shown. Every rule here is an own rule.
use Rattle.std.specs.Prelude.{ℕ, ◌≡◌, List}
use Rattle.cxl_message.specs.Setup.{Configuration}
use Rattle.cxl_message.specs.declared.events.Event.{Event}
use Rattle.cxl_message.specs.declared.identifiers.Bytes64.{Bytes64}
use Rattle.cxl_message.specs.declared.identifiers.Line.{Line}
use Rattle.cxl_codec.specs.declared.versions.Version.{Version}
use Rattle.cxl_view.specs.Traces.{front_bytes, shown_bytes}
use Rattle.trace_stream.specs.declared.items.TraceFault.{TraceFault}
use Rattle.trace_stream.specs.Runs.{HasFault, IsTraceIn, trace_items_in}
use Rattle.trace_viewer.specs.declared.viewed.Viewed.{Viewed}
use Rattle.trace_viewer.specs.Items.{shown_items}
use Rattle.trace_viewer.specs.Viewing.{IsFrontShown, IsViewed}

-- the text of a trace's items is the front of the shown trace
abbrev pub ItemsAreShown : Type 0
ItemsAreShown =
    (version : Version) (setup : Configuration) (names : List (ℕ × List ℕ)) (openings : List (Line × Bytes64)) (events : List Event)
    → shown_items (trace_items_in version setup names openings events) ≡ front_bytes version setup names openings events

-- bytes are one thing, and one text is shown of them, whatever the pieces were
abbrev pub OneView : Type 0
OneView = (bytes a b : List ℕ) (x y : Viewed) → IsViewed bytes a x → IsViewed bytes b y → (a ≡ b) × (x ≡ y)

-- a trace is viewed whole, and what is shown of it is its text
abbrev pub TracesAreShown : Type 0
TracesAreShown =
    (bytes : List ℕ) (version : Version) (setup : Configuration) (names : List (ℕ × List ℕ)) (openings : List (Line × Bytes64)) (events : List Event) (text : List ℕ) (viewed : Viewed)
    → IsTraceIn bytes version setup names openings events → IsViewed bytes text viewed → (text ≡ shown_bytes version setup names openings events) × (viewed ≡ Viewed.Whole)

-- bytes of which a front alone is shown are no trace, and the fault is theirs
abbrev pub FrontsHaveFaults : Type 0
FrontsHaveFaults = (bytes text : List ℕ) (fault : TraceFault) → IsFrontShown bytes text fault → HasFault bytes fault
