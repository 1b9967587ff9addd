-- The items that were read of a trace are the first of its items.
use Rattle.std.proofs.Common.{◌≡◌, ℕ, List, [], ◌∷◌, ◌++◌, length, drop, None, Result, Ok, Err, refl, sym, ap, subst, ◌∙◌, append_assoc, append-nil, length-append, arith}
use Rattle.std.specs.Option.{option_map_or}
use Rattle.std.proofs.lemmas.List.{take_at, drop_at, length-map}
use Rattle.cxl_message.specs.Setup.{Configuration}
use Rattle.cxl_message.specs.declared.events.Event.{Event}
use Rattle.cxl_message.specs.declared.identifiers.Bytes64.{Bytes64}
use Rattle.cxl_message.specs.declared.identifiers.Line.{Line}
use Rattle.cxl_codec.specs.Cells.{Cell}
use Rattle.cxl_codec.specs.EndRecord.{EndFits, end_cells}
use Rattle.cxl_codec.specs.Events.{EventFitsIn, event_cells_in}
use Rattle.cxl_codec.specs.Header.{VersionedFits, versioned_cells}
use Rattle.cxl_codec.specs.NameRecord.{NameFits, name_cells}
use Rattle.cxl_codec.specs.Openings.{OpeningFits, opening_cells}
use Rattle.cxl_codec.specs.ReadingEvents.{event_at}
use Rattle.cxl_codec.specs.ReadingFiles.{end_at, name_at, opening_at, versioned_at}
use Rattle.cxl_codec.specs.declared.versions.Version.{Version}
use Rattle.cxl_codec.proofs.EventReads.{event_meets}
use Rattle.cxl_codec.proofs.FileReads.{end_meets, opening_meets}
use Rattle.cxl_codec.proofs.HeaderReads.{versioned_meets}
use Rattle.cxl_codec.proofs.NameReads.{name_meets}
use Rattle.cxl_codec.proofs.OneAnswer.{one_answer}
use Rattle.trace_stream.specs.declared.items.Item.{Item}
use Rattle.trace_stream.specs.declared.items.Reason.{Reason}
use Rattle.trace_stream.specs.declared.items.TraceFault.{TraceFault}
use Rattle.trace_stream.specs.declared.stages.Stage.{Stage}
use Rattle.trace_stream.specs.Items.{Allows, ReadsAs, Says, advance, cells_at, fault_at, item_length, record_fault}
use Rattle.trace_stream.specs.Laws.{OneReading}
use Rattle.trace_stream.specs.Runs.{Follow, HasFault, IsTraceIn, bytes_from, item_bytes, items_bytes, trace_items_in}
use Rattle.trace_stream.proofs.Extending.{StandsAt}
use Rattle.trace_stream.proofs.OneLists.{ended_no_fault, one_fault}
use Rattle.trace_stream.proofs.OneReadings.{each, says_once}
use Rattle.trace_stream.proofs.Pauses.{record_long}
use Rattle.trace_stream.proofs.TraceItems.{traces_are_read}
use Rattle.trace_migration.specs.Items.{events_in}
use Rattle.trace_migration.specs.Walks.{IsAt, Walking}
use Rattle.trace_migration.proofs.Parts.{events_append, trace_parts}

-- bytes are read in one way
once : OneReading
once =
    says_once
    (each (one_answer VersionedFits versioned_cells versioned_at versioned_meets) (one_answer NameFits name_cells name_at name_meets) (one_answer OpeningFits opening_cells opening_at opening_meets)
    (λ version. one_answer (EventFitsIn version) (event_cells_in version) (event_at version) (event_meets version))
    (one_answer EndFits end_cells end_at end_meets))

-- a trace has no fault
pub no_fault_in_trace : (bytes : List ℕ) (version : Version) (setup : Configuration) (names : List (ℕ × List ℕ)) (opening : List (Line × Bytes64)) (events : List Event) (fault : TraceFault)
    → IsTraceIn bytes version setup names opening events → HasFault bytes fault → ⊥
no_fault_in_trace bytes version setup names opening events fault trace has =
    let read = traces_are_read bytes version setup names opening events trace in
    ended_no_fault once bytes (trace_items_in version setup names opening events) (length events) fault read.read read.ended has

-- and other bytes have one
pub one_of_two_faults : (bytes : List ℕ) (f g : TraceFault) → HasFault bytes f → HasFault bytes g → f ≡ g
one_of_two_faults = one_fault once

-- ---- one item at the front

stands_front : (stage : Stage) (item : Item) (more : List ℕ) → Allows stage item → record_fault stage item ≡ None → StandsAt stage (item_bytes stage item ++ more) item
stands_front stage item more allowed right = record {
  begins = record { fits = allowed; spelled = take_at (item_bytes stage item) more (item_length stage item) (length-map (cells_at stage item) (λ (c : Cell). c.byte)); whole = refl };
  right = right;
}

reads_item : (stage : Stage) (place : ℕ) (bytes : List ℕ) (item : Item) → StandsAt stage bytes item → ReadsAs stage place bytes (Ok item)
reads_item stage place bytes item o = record {
  answer = Ok (item, item_length stage item);
  answered = o.begins;
  comes_to = ap (λ fault. option_map_or (λ (reason : Reason). Err (fault_at place reason)) fault (Ok item)) (sym o.right);
}

says_item : (stage : Stage) (place : ℕ) (bytes : List ℕ) (item : Item) → StandsAt stage bytes item → Says stage place bytes (Ok item)
says_item Stage.Start place bytes item o = reads_item Stage.Start place bytes item o
says_item (Stage.Names streams lines next) place bytes item o = reads_item (Stage.Names streams lines next) place bytes item o
says_item (Stage.Openings version lines next) place bytes item o = reads_item (Stage.Openings version lines next) place bytes item o
says_item (Stage.Events version count) place bytes item o = reads_item (Stage.Events version count) place bytes item o
says_item (Stage.Ended count) place bytes item o = absurd o.begins.fits

-- two items at the front of the same bytes are one
one_item : (stage : Stage) (bytes : List ℕ) (x y : Item) → StandsAt stage bytes x → StandsAt stage bytes y → x ≡ y
one_item stage bytes x y p q =
    let same : ◌≡◌ {A = Result Item TraceFault} (Ok x) (Ok y) = once stage 0 bytes (Ok x) (Ok y) (says_item stage 0 bytes x p) (says_item stage 0 bytes y q) in
    cc

-- an item has bytes
some_bytes : (stage : Stage) (item : Item) (more : List ℕ) → Allows stage item → [] ≡ item_bytes stage item ++ more → ⊥
some_bytes stage item more allowed e =
    let size = (record_long stage item allowed).0 in
    let cells = length-map (cells_at stage item) (λ (c : Cell). c.byte) in
    let parts = length-append (item_bytes stage item) more in
    let none : 0 ≡ length (item_bytes stage item ++ more) = ap (length {A = ℕ}) e in
    absurd (omega (arith, size, cells, parts, none))

same_rest : (front a b : List ℕ) → front ++ a ≡ front ++ b → a ≡ b
same_rest front a b e = sym (drop_at front a (length front) refl) ∙ ap (λ (l : List ℕ). drop (length front) l) e ∙ drop_at front b (length front) refl

-- ---- the first items

-- some items, and others behind them
pub record IsFront (items all : List Item) : Type 0 where
  pub later : List Item
  pub is : all ≡ items ++ later

one_before : (x y : Item) (xs ys : List Item) → x ≡ y → IsFront ys xs → IsFront (y ∷ ys) (x ∷ xs)
one_before x y xs ys same front = record { later = front.later; is = ap (λ (i : Item). i ∷ xs) same ∙ ap (λ (l : List Item). y ∷ l) front.is }

front_items : (xs ys : List Item) (stage : Stage) (q : List ℕ) → Follow stage xs → Follow stage ys → bytes_from stage xs ≡ bytes_from stage ys ++ q → IsFront ys xs
front_items xs [] stage q fx fy e = record { later = xs; is = refl }
front_items [] (y ∷ ys) stage q fx fy e =
    let others : List ℕ = bytes_from (advance stage y) ys in
    absurd (some_bytes stage y (others ++ q) fy.0 (e ∙ append_assoc (item_bytes stage y) others q))
front_items (x ∷ xs) (y ∷ ys) stage q fx fy e =
    let xb : List ℕ = bytes_from (advance stage x) xs in
    let yb : List ℕ = bytes_from (advance stage y) ys in
    let grouped : item_bytes stage x ++ xb ≡ item_bytes stage y ++ (yb ++ q) = e ∙ append_assoc (item_bytes stage y) yb q in
    let here : StandsAt stage (item_bytes stage y ++ (yb ++ q)) x = subst (λ (l : List ℕ). StandsAt stage l x) grouped (stands_front stage x xb fx.0 fx.1) in
    let same : x ≡ y = one_item stage (item_bytes stage y ++ (yb ++ q)) x y here (stands_front stage y (yb ++ q) fy.0 fy.1) in
    let behind : xb ≡ yb ++ q = same_rest (item_bytes stage y) xb (yb ++ q) (ap (λ (i : Item). item_bytes stage i ++ xb) (sym same) ∙ grouped) in
    let there : bytes_from (advance stage y) xs ≡ yb ++ q = ap (λ (i : Item). bytes_from (advance stage i) xs) (sym same) ∙ behind in
    let follow : Follow (advance stage y) xs = subst (λ (i : Item). Follow (advance stage i) xs) same fx.2 in
    one_before x y xs ys same (front_items xs ys (advance stage y) q follow fy.2 there)

-- what was read of a trace are its first items
front_of_trace : (bytes : List ℕ) (items : List Item) (walking : Walking) (version : Version) (setup : Configuration) (names : List (ℕ × List ℕ)) (opening : List (Line × Bytes64)) (events : List Event)
    → IsTraceIn bytes version setup names opening events → IsAt bytes items walking → IsFront items (trace_items_in version setup names opening events)
front_of_trace bytes items walking version setup names opening events trace at =
    let all = trace_items_in version setup names opening events in
    let whole = (traces_are_read bytes version setup names opening events trace).read in
    let seen : bytes ≡ items_bytes items ++ (walking.reading.waiting ++ walking.rest) =
    at.split ∙ ap (λ (l : List ℕ). l ++ walking.rest) at.has.read.spelled ∙ append_assoc (items_bytes items) walking.reading.waiting walking.rest in
    front_items all items Stage.Start (walking.reading.waiting ++ walking.rest) whole.follow at.has.read.follow (sym (whole.spelled ∙ append-nil (items_bytes all)) ∙ seen)

-- and their events its first events
pub record HasLater (items : List Item) (events : List Event) : Type 0 where
  pub later : List Event
  pub is : events ≡ events_in items ++ later

pub later_events : (bytes : List ℕ) (items : List Item) (walking : Walking) (version : Version) (setup : Configuration) (names : List (ℕ × List ℕ)) (opening : List (Line × Bytes64)) (events : List Event)
    → IsTraceIn bytes version setup names opening events → IsAt bytes items walking → HasLater items events
later_events bytes items walking version setup names opening events trace at =
    let front = front_of_trace bytes items walking version setup names opening events trace at in
    let parts = trace_parts version setup names opening events in
    record { later = events_in front.later; is = sym parts.happened ∙ ap events_in front.is ∙ events_append items front.later }
