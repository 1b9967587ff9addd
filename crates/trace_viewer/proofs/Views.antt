-- There is one view of bytes.
use Rattle.std.proofs.Common.{List, Err, Ok, ◌≡◌, inl, inr, length, refl, sym, ap, ◌∙◌, ℕ}
use Rattle.std.specs.Prelude.{Result}
use Rattle.cxl_message.specs.Setup.{Configuration}
use Rattle.cxl_message.specs.declared.events.Event.{Event}
use Rattle.cxl_message.specs.declared.identifiers.Bytes64.{Bytes64}
use Rattle.cxl_message.specs.declared.identifiers.Line.{Line}
use Rattle.cxl_codec.specs.declared.versions.Version.{Version}
use Rattle.cxl_codec.specs.Traces.{TraceIsDetermined}
use Rattle.cxl_view.specs.Traces.{shown_bytes}
use Rattle.trace_stream.specs.declared.items.Item.{Item}
use Rattle.trace_stream.specs.declared.items.TraceFault.{TraceFault}
use Rattle.trace_stream.specs.declared.stages.Stage.{Stage}
use Rattle.trace_stream.specs.Laws.{OneFault, OneList, Stops, TracesHaveNoFault}
use Rattle.trace_stream.specs.Runs.{Fails, items_bytes, stage_after}
use Rattle.trace_viewer.specs.declared.viewed.Viewed.{Viewed}
use Rattle.trace_viewer.specs.Items.{shown_items}
use Rattle.trace_viewer.specs.Laws.{FrontsHaveFaults, OneView, TracesAreShown}
use Rattle.trace_viewer.specs.Viewing.{IsFrontShown, IsShown}

pub fronts_have_faults : FrontsHaveFaults
fronts_have_faults bytes text fault front = record { items = front.items; rest = front.rest; read = front.read; fails = front.fails }

-- ---- one front

more_alone : (item : Item) → ◌≡◌ {A = Result Item TraceFault} (Ok Item.More) (Ok item) → item ≡ Item.More
more_alone item e = cc

stops : (items : List Item) (rest : List ℕ) (fault : TraceFault) → Fails (stage_after Stage.Start items) (length (items_bytes items)) rest fault → Stops items rest
stops items rest fault (inl says) = record { outcome = Err fault; says = says; no_item = λ item e. absurd cc }
stops items rest fault (inr short) = record { outcome = Ok Item.More; says = short.0; no_item = more_alone }

one_front : OneList → (bytes a b : List ℕ) (f g : TraceFault) → IsFrontShown bytes a f → IsFrontShown bytes b g → a ≡ b
one_front one bytes a b f g x y =
    let same = one bytes x.items y.items x.rest y.rest x.read (stops x.items x.rest f x.fails) y.read (stops y.items y.rest g y.fails) in
    x.shown ∙ ap shown_items same.0 ∙ sym y.shown

-- ---- one whole text

one_whole : TraceIsDetermined → (bytes a b : List ℕ) → IsShown bytes a → IsShown bytes b → a ≡ b
one_whole determined bytes a b x y =
    let same = determined x.version y.version x.setup y.setup x.names y.names x.openings y.openings x.events y.events x.trace.fits y.trace.fits (sym x.trace.spelled ∙ y.trace.spelled) in
    x.shown ∙ ap (λ (v : Version). shown_bytes v x.setup x.names x.openings x.events) same.0 ∙ ap (λ (s : Configuration). shown_bytes y.version s x.names x.openings x.events) same.1
    ∙ ap (λ (l : List (ℕ × List ℕ)). shown_bytes y.version y.setup l x.openings x.events) same.2 ∙ ap (λ (l : List (Line × Bytes64)). shown_bytes y.version y.setup y.names l x.events) same.3
    ∙ ap (λ (l : List Event). shown_bytes y.version y.setup y.names y.openings l) same.4 ∙ sym y.shown

-- ---- one view

pub one_view : TraceIsDetermined → OneList → OneFault → TracesHaveNoFault → OneView
one_view determined list fault none bytes a b Viewed.Whole Viewed.Whole x y = (one_whole determined bytes a b x y, refl)
one_view determined list fault none bytes a b Viewed.Whole (Viewed.Fault g) x y = absurd (none bytes x.version x.setup x.names x.openings x.events g x.trace (fronts_have_faults bytes b g y))
one_view determined list fault none bytes a b (Viewed.Fault f) Viewed.Whole x y = absurd (none bytes y.version y.setup y.names y.openings y.events f y.trace (fronts_have_faults bytes a f x))
one_view determined list fault none bytes a b (Viewed.Fault f) (Viewed.Fault g) x y =
    (one_front list bytes a b f g x y, ap Viewed.Fault (fault bytes f g (fronts_have_faults bytes a f x) (fronts_have_faults bytes b g y)))

pub traces_shown : OneView → TracesAreShown
traces_shown one bytes version setup names openings events text viewed trace view =
    one bytes text (shown_bytes version setup names openings events) viewed Viewed.Whole view
    (record { version = version; setup = setup; names = names; openings = openings; events = events; trace = trace; shown = refl })
