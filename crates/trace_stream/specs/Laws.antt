-- Laws of whole inputs. Every rule here is an own rule.
use Rattle.std.specs.Prelude.{◌≡◌, ℕ, List, [], length, Result, Ok}
use Rattle.cxl_message.specs.Setup.{Configuration}
use Rattle.cxl_message.specs.declared.identifiers.Line.{Line}
use Rattle.cxl_message.specs.declared.identifiers.Bytes64.{Bytes64}
use Rattle.cxl_message.specs.declared.events.Event.{Event}
use Rattle.cxl_codec.specs.declared.versions.Version.{Version}
use Rattle.trace_stream.specs.declared.items.Item.{Item}
use Rattle.trace_stream.specs.declared.items.TraceFault.{TraceFault}
use Rattle.trace_stream.specs.declared.stages.Stage.{Stage}
use Rattle.trace_stream.specs.Items.{Says}
use Rattle.trace_stream.specs.Runs.{IsRead, IsReadWhole, SaysAfter, IsTraceIn, HasFault, trace_items_in}

-- at each stage and place bytes say one thing
abbrev pub OneReading : Type 0
OneReading = (stage : Stage) (place : ℕ) (bytes : List ℕ) (a b : Result Item TraceFault) → Says stage place bytes a → Says stage place bytes b → a ≡ b

-- behind these items the bytes say that more are wanted, or a fault
pub record Stops (items : List Item) (rest : List ℕ) : Type 0 where
  pub outcome : Result Item TraceFault
  pub says : SaysAfter items rest outcome
  pub no_item : (item : Item) → outcome ≡ Ok item → item ≡ Item.More

-- bytes have one list of items, up to where they want more or have a fault, and one rest: however they came
abbrev pub OneList : Type 0
OneList = (bytes : List ℕ) (xs ys : List Item) (r q : List ℕ) → IsRead bytes xs r → Stops xs r → IsRead bytes ys q → Stops ys q → (xs ≡ ys) × (r ≡ q)

-- a trace is read as its items, all of it, up to its end
abbrev pub TracesAreRead : Type 0
TracesAreRead =
    (bytes : List ℕ) (version : Version) (setup : Configuration) (names : List (ℕ × List ℕ)) (opening : List (Line × Bytes64)) (events : List Event) → IsTraceIn bytes version setup names opening events
    → IsReadWhole bytes (trace_items_in version setup names opening events) (length events)

-- bytes have at most one fault
abbrev pub OneFault : Type 0
OneFault = (bytes : List ℕ) (f g : TraceFault) → HasFault bytes f → HasFault bytes g → f ≡ g

-- a trace has none
abbrev pub TracesHaveNoFault : Type 0
TracesHaveNoFault =
    (bytes : List ℕ) (version : Version) (setup : Configuration) (names : List (ℕ × List ℕ)) (opening : List (Line × Bytes64)) (events : List Event) (fault : TraceFault)
    → IsTraceIn bytes version setup names opening events → HasFault bytes fault → ⊥
