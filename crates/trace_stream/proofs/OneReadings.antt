-- At each stage bytes have one answer, and say one thing.
use Rattle.std.proofs.Common.{◌≡◌, ℕ, ◌<◌, Bool, true, false, List, [], ◌∷◌, length, replicate, None, Result, refl, sym, ap, ◌∙◌, arith}
use Rattle.std.proofs.lemmas.List.Elements.{All-replicate}
use Rattle.cxl_message.specs.declared.identifiers.Line.{Line}
use Rattle.cxl_message.specs.declared.identifiers.Bytes64.{Bytes64}
use Rattle.cxl_message.specs.declared.events.Act.{Act}
use Rattle.cxl_message.specs.declared.events.Cause.{Cause}
use Rattle.cxl_message.specs.declared.events.Sends.{Sends}
use Rattle.cxl_message.specs.declared.events.Event.{Event}
use Rattle.cxl_codec.specs.declared.refusals.DecodeRefusal.{DecodeRefusal}
use Rattle.cxl_codec.specs.declared.versions.Version.{Version}
use Rattle.cxl_codec.specs.Header.{VersionedFits, versioned_cells}
use Rattle.cxl_codec.specs.NameRecord.{NameFits, name_cells}
use Rattle.cxl_codec.specs.Openings.{opening_cells, OpeningFits}
use Rattle.cxl_codec.specs.Events.{EventFitsIn, event_cells_in}
use Rattle.cxl_codec.specs.EndRecord.{end_cells, EndFits}
use Rattle.cxl_codec.specs.Grammar.{Answers, HasOneAnswer}
use Rattle.trace_stream.specs.declared.items.Item.{Item}
use Rattle.trace_stream.specs.declared.items.TraceFault.{TraceFault}
use Rattle.trace_stream.specs.declared.stages.Stage.{Stage}
use Rattle.trace_stream.specs.Items.{item_cells, cells_at, IsFirst, IsLater, IsNamed, IsNext, Allows, ReadsAs, begins_with, outcome_of}
use Rattle.trace_stream.specs.Runs.{name_item}
use Rattle.trace_stream.specs.Laws.{OneReading}
use Rattle.trace_stream.proofs.KindsLifted.{back_header, back_end, back_event, back_opening, back_later, back_name, back_next, headed, opened, later_next, next_named}
use Rattle.trace_stream.proofs.Lowering.{Begins, first_label, one_lowered, one_of_nothing}

-- records aren't empty
first_long : (version : Version) (item : Item) → IsFirst item → 0 < length (item_cells version item)
first_long version (Item.Header own setup) fits = omega arith
first_long version (Item.Name stream name) fits = absurd fits
first_long version (Item.Opened line bytes) fits = absurd fits
first_long version (Item.Event e) fits = absurd fits
first_long version (Item.End count) fits = absurd fits
first_long version Item.More fits = absurd fits

next_long : (version : Version) (item : Item) → IsNext version item → 0 < length (item_cells version item)
next_long version (Item.Header own setup) fits = absurd fits
next_long version (Item.Name stream name) fits = absurd fits
next_long version (Item.Opened line bytes) fits = omega arith
next_long version (Item.Event e) fits = omega arith
next_long version (Item.End count) fits = omega arith
next_long version Item.More fits = absurd fits

named_long : (item : Item) → IsNamed item → 0 < length (item_cells Version.Two item)
named_long (Item.Header own setup) fits = absurd fits
named_long (Item.Name stream name) fits = omega arith
named_long (Item.Opened line bytes) fits = omega arith
named_long (Item.Event e) fits = omega arith
named_long (Item.End count) fits = omega arith
named_long Item.More fits = absurd fits

later_long : (version : Version) (item : Item) → IsLater version item → 0 < length (item_cells version item)
later_long version item fits = next_long version item (later_next version item fits)

-- a record of each kind
some_event : Event
some_event = record { agent = 0; cause = Cause.Act (Act.Finish (record { 0 = 0 })); sends = Sends.Nothing; commit = None }

some_event_fits : (version : Version) → EventFitsIn version some_event
unfolding some_event
some_event_fits version = record { formed = refl; cause = omega arith; sends = tt; commit = tt }

some_opening : Line × Bytes64
some_opening = (record { 0 = 0 }, record { 0 = replicate 64 0 })

some_opening_fits : OpeningFits some_opening
unfolding some_opening
some_opening_fits = record { line = omega arith; bytes = record { count = refl; each = All-replicate (λ b. b < 256) 64 0 (omega arith) } }

some_name : ℕ × List ℕ
some_name = (0, 97 ∷ [])

some_name_fits : NameFits some_name
unfolding some_name
some_name_fits = record { stream = omega arith; spelled = refl }

-- a record of a kind begins by the label by which each begins
header_begins : (version : Version) (item : Item) → IsFirst item → Begins VersionedFits versioned_cells (first_label (item_cells version item))
header_begins version (Item.Header own setup) fits = record { value = (own, setup); fits = fits; first = refl }
header_begins version (Item.Name stream name) fits = absurd fits
header_begins version (Item.Opened line bytes) fits = absurd fits
header_begins version (Item.Event e) fits = absurd fits
header_begins version (Item.End count) fits = absurd fits
header_begins version Item.More fits = absurd fits

module _ (version : Version) where
  end_begins : (item : Item) → IsLater version item → Begins EndFits end_cells (first_label (item_cells version item))
  end_begins (Item.Header own setup) fits = absurd fits
  end_begins (Item.Name stream name) fits = absurd fits
  end_begins (Item.Opened line bytes) fits = absurd fits
  end_begins (Item.Event e) fits = record { value = 0; fits = omega arith; first = refl }
  end_begins (Item.End count) fits = record { value = 0; fits = omega arith; first = refl }
  end_begins Item.More fits = absurd fits

  event_begins : (item : Item) → IsLater version item → Begins (EventFitsIn version) (event_cells_in version) (first_label (item_cells version item))
  event_begins (Item.Header own setup) fits = absurd fits
  event_begins (Item.Name stream name) fits = absurd fits
  event_begins (Item.Opened line bytes) fits = absurd fits
  event_begins (Item.Event e) fits = record { value = some_event; fits = some_event_fits version; first = refl }
  event_begins (Item.End count) fits = record { value = some_event; fits = some_event_fits version; first = refl }
  event_begins Item.More fits = absurd fits

  opening_begins : (item : Item) → IsNext version item → Begins OpeningFits opening_cells (first_label (item_cells version item))
  opening_begins (Item.Header own setup) fits = absurd fits
  opening_begins (Item.Name stream name) fits = absurd fits
  opening_begins (Item.Opened line bytes) fits = record { value = some_opening; fits = some_opening_fits; first = refl }
  opening_begins (Item.Event e) fits = record { value = some_opening; fits = some_opening_fits; first = refl }
  opening_begins (Item.End count) fits = record { value = some_opening; fits = some_opening_fits; first = refl }
  opening_begins Item.More fits = absurd fits

  later_begins : (item : Item) → IsNext version item → Begins (IsLater version) (item_cells version) (first_label (item_cells version item))
  later_begins (Item.Header own setup) fits = absurd fits
  later_begins (Item.Name stream name) fits = absurd fits
  later_begins (Item.Opened line bytes) fits = record { value = Item.End 0; fits = omega arith; first = refl }
  later_begins (Item.Event e) fits = record { value = Item.End 0; fits = omega arith; first = refl }
  later_begins (Item.End count) fits = record { value = Item.End 0; fits = omega arith; first = refl }
  later_begins Item.More fits = absurd fits

name_begins : (item : Item) → IsNamed item → Begins NameFits name_cells (first_label (item_cells Version.Two item))
name_begins (Item.Header own setup) fits = absurd fits
name_begins (Item.Name stream name) fits = record { value = some_name; fits = some_name_fits; first = refl }
name_begins (Item.Opened line bytes) fits = record { value = some_name; fits = some_name_fits; first = refl }
name_begins (Item.Event e) fits = record { value = some_name; fits = some_name_fits; first = refl }
name_begins (Item.End count) fits = record { value = some_name; fits = some_name_fits; first = refl }
name_begins Item.More fits = absurd fits

next_begins : (item : Item) → IsNamed item → Begins (IsNext Version.Two) (item_cells Version.Two) (first_label (item_cells Version.Two item))
next_begins (Item.Header own setup) fits = absurd fits
next_begins (Item.Name stream name) fits = record { value = Item.End 0; fits = omega arith; first = refl }
next_begins (Item.Opened line bytes) fits = record { value = Item.End 0; fits = omega arith; first = refl }
next_begins (Item.Event e) fits = record { value = Item.End 0; fits = omega arith; first = refl }
next_begins (Item.End count) fits = record { value = Item.End 0; fits = omega arith; first = refl }
next_begins Item.More fits = absurd fits

-- each kind of record has one answer
pub record OneEach : Type 0 where
  pub headers : HasOneAnswer VersionedFits versioned_cells
  pub names : HasOneAnswer NameFits name_cells
  pub openings : HasOneAnswer OpeningFits opening_cells
  pub events : (version : Version) → HasOneAnswer (EventFitsIn version) (event_cells_in version)
  pub ends : HasOneAnswer EndFits end_cells

-- the same, put together
pub each : HasOneAnswer VersionedFits versioned_cells → HasOneAnswer NameFits name_cells → HasOneAnswer OpeningFits opening_cells → ((version : Version) → HasOneAnswer (EventFitsIn version) (event_cells_in version)) → HasOneAnswer EndFits end_cells → OneEach
each headers names openings events ends = record { headers = headers; names = names; openings = openings; events = events; ends = ends }

module _ (kinds : OneEach) where
  one_first : (version : Version) → HasOneAnswer IsFirst (item_cells version)
  one_first version [] a b p q = one_of_nothing IsFirst (item_cells version) (first_long version) a b p q
  one_first version (x ∷ bytes) a b p q =
      one_lowered VersionedFits versioned_cells IsFirst (item_cells version) headed (λ v. refl) (λ v fits. fits) (x ∷ bytes) (omega arith) (back_header version (x ∷ bytes)) (first_long version) (header_begins version) kinds.headers a b p q

  later_by : (version : Version) (bytes : List ℕ) → 0 < length bytes → (ending : Bool) → begins_with bytes 0xff ≡ ending → (a b : Result (Item × ℕ) DecodeRefusal) → Answers (IsLater version) (item_cells version) bytes a
      → Answers (IsLater version) (item_cells version) bytes b → a ≡ b
  later_by version bytes some true e a b p q =
      one_lowered EndFits end_cells (IsLater version) (item_cells version) Item.End (λ v. refl) (λ v fits. fits) bytes some (back_end version bytes e) (later_long version) (end_begins version) kinds.ends a b p q
  later_by version bytes some false e a b p q =
      one_lowered (EventFitsIn version) (event_cells_in version) (IsLater version) (item_cells version) Item.Event (λ v. refl) (λ v fits. fits) bytes some (back_event version bytes e) (later_long version) (event_begins version) (kinds.events version) a b p q

  one_later : (version : Version) → HasOneAnswer (IsLater version) (item_cells version)
  one_later version [] a b p q = one_of_nothing (IsLater version) (item_cells version) (later_long version) a b p q
  one_later version (x ∷ bytes) a b p q = later_by version (x ∷ bytes) (omega arith) (begins_with (x ∷ bytes) 0xff) refl a b p q

  next_by : (version : Version) (bytes : List ℕ) → 0 < length bytes → (opening : Bool) → begins_with bytes 0xf0 ≡ opening → (a b : Result (Item × ℕ) DecodeRefusal) → Answers (IsNext version) (item_cells version) bytes a
      → Answers (IsNext version) (item_cells version) bytes b → a ≡ b
  next_by version bytes some true e a b p q =
      one_lowered OpeningFits opening_cells (IsNext version) (item_cells version) opened (λ v. refl) (λ v fits. fits) bytes some (back_opening version bytes e) (next_long version) (opening_begins version) kinds.openings a b p q
  next_by version bytes some false e a b p q =
      one_lowered (IsLater version) (item_cells version) (IsNext version) (item_cells version) (λ (i : Item). i) (λ v. refl) (later_next version) bytes some (back_later version bytes e) (next_long version) (later_begins version) (one_later version) a b p q

  one_next : (version : Version) → HasOneAnswer (IsNext version) (item_cells version)
  one_next version [] a b p q = one_of_nothing (IsNext version) (item_cells version) (next_long version) a b p q
  one_next version (x ∷ bytes) a b p q = next_by version (x ∷ bytes) (omega arith) (begins_with (x ∷ bytes) 0xf0) refl a b p q

  named_by : (bytes : List ℕ) → 0 < length bytes → (naming : Bool) → begins_with bytes 0xf1 ≡ naming → (a b : Result (Item × ℕ) DecodeRefusal) → Answers IsNamed (item_cells Version.Two) bytes a
      → Answers IsNamed (item_cells Version.Two) bytes b → a ≡ b
  named_by bytes some true e a b p q =
      one_lowered NameFits name_cells IsNamed (item_cells Version.Two) name_item (λ v. refl) (λ v fits. fits) bytes some (back_name bytes e) named_long name_begins kinds.names a b p q
  named_by bytes some false e a b p q =
      one_lowered (IsNext Version.Two) (item_cells Version.Two) IsNamed (item_cells Version.Two) (λ (i : Item). i) (λ v. refl) next_named bytes some (back_next bytes e) named_long next_begins (one_next Version.Two) a b p q

  one_named : HasOneAnswer IsNamed (item_cells Version.Two)
  one_named [] a b p q = one_of_nothing IsNamed (item_cells Version.Two) named_long a b p q
  one_named (x ∷ bytes) a b p q = named_by (x ∷ bytes) (omega arith) (begins_with (x ∷ bytes) 0xf1) refl a b p q

  -- one answer comes to one outcome
  reads_once : (stage : Stage) (place : ℕ) (bytes : List ℕ) (a b : Result Item TraceFault) → HasOneAnswer (Allows stage) (cells_at stage) → ReadsAs stage place bytes a → ReadsAs stage place bytes b → a ≡ b
  reads_once stage place bytes a b one p q = p.comes_to ∙ ap (outcome_of stage place) (one bytes p.answer q.answer p.answered q.answered) ∙ sym q.comes_to

  pub says_once : OneReading
  says_once Stage.Start place bytes a b p q = reads_once Stage.Start place bytes a b (one_first Version.One) p q
  says_once (Stage.Names streams lines next) place bytes a b p q = reads_once (Stage.Names streams lines next) place bytes a b one_named p q
  says_once (Stage.Openings version lines next) place bytes a b p q = reads_once (Stage.Openings version lines next) place bytes a b (one_next version) p q
  says_once (Stage.Events version count) place bytes a b p q = reads_once (Stage.Events version count) place bytes a b (one_later version) p q
  says_once (Stage.Ended count) place bytes a b p q = p ∙ sym q
