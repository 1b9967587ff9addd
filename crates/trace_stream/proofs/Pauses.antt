-- What an answer says of the bytes that wait after it.
use Rattle.std.proofs.Common.{◌≡◌, ℕ, ◌+◌, ◌<◌, ◌≤◌, List, [], ◌∷◌, ◌++◌, length, drop, Option, Some, None, IfNone, Result, Ok, Err, refl, sym, ap, subst, ◌∙◌, add-zero, arith, length-append, length-drop, IsTrue}
use Rattle.std.specs.Option.{option_map_or}
use Rattle.std.proofs.lemmas.List.{length-map}
use Rattle.cxl_message.specs.Setup.{Configuration}
use Rattle.cxl_codec.specs.declared.refusals.DecodeRefusal.{DecodeRefusal}
use Rattle.cxl_codec.specs.declared.fields.FieldName.{FieldName}
use Rattle.cxl_codec.specs.Cells.{Cell, field}
use Rattle.cxl_codec.specs.declared.versions.Version.{Version}
use Rattle.cxl_codec.specs.Header.{header_cells_in}
use Rattle.cxl_message.specs.Names.{is_name, is_name_byte}
use Rattle.std.specs.List.{list_all}
use Rattle.std.proofs.lemmas.Bool.{and_parts, leb-true}
use Rattle.cxl_codec.specs.Grammar.{IsCutShort, Answers}
use Rattle.trace_stream.specs.declared.items.Item.{Item}
use Rattle.trace_stream.specs.declared.items.Reason.{Reason}
use Rattle.trace_stream.specs.declared.items.TraceFault.{TraceFault}
use Rattle.trace_stream.specs.declared.stages.Stage.{Stage}
use Rattle.trace_stream.specs.Items.{cells_at, item_cells, item_length, record_fault, fault_at, outcome_of, Allows, IsFirst, IsNamed, IsNext, IsLater, Says}
use Rattle.trace_stream.specs.Readings.{Reading, Repeats, Answered, IsDrained, IsGiven, IsPause, after_next, fed_count}
use Rattle.trace_stream.proofs.Extending.{item_stands, record_within}
use Rattle.trace_stream.proofs.Lengths.{event_length, payload_length}

-- records aren't empty, and have at most 370 bytes
module _ (version : Version) where
  next_long : (item : Item) → IsNext version item → (0 < length (item_cells version item)) × (length (item_cells version item) ≤ 370)
  next_long (Item.Header own setup) fits = absurd fits
  next_long (Item.Name stream name) fits = absurd fits
  next_long (Item.Opened line bytes) fits = (omega arith, omega (arith, payload_length bytes fits.bytes))
  next_long (Item.Event e) fits = (omega arith, event_length version e fits)
  next_long (Item.End count) fits = (omega arith, omega arith)
  next_long Item.More fits = absurd fits

  later_long : (item : Item) → IsLater version item → (0 < length (item_cells version item)) × (length (item_cells version item) ≤ 370)
  later_long (Item.Header own setup) fits = absurd fits
  later_long (Item.Name stream name) fits = absurd fits
  later_long (Item.Opened line bytes) fits = absurd fits
  later_long (Item.Event e) fits = (omega arith, event_length version e fits)
  later_long (Item.End count) fits = (omega arith, omega arith)
  later_long Item.More fits = absurd fits

-- a name is short
name_length : (name : List ℕ) → IsTrue (is_name name) → length name ≤ 32
name_length name spelled =
    let parts = and_parts _ (list_all is_name_byte name) spelled in
    let limits = and_parts _ _ parts.0 in
    leb-true (length name) 32 limits.1

named_long : (item : Item) → IsNamed item → (0 < length (item_cells Version.Two item)) × (length (item_cells Version.Two item) ≤ 370)
named_long (Item.Header own setup) fits = absurd fits
named_long (Item.Name stream name) fits = (omega arith, omega (arith, length-map name.items (field FieldName.NameByte), name_length name.items fits.spelled))
named_long (Item.Opened line bytes) fits = (omega arith, omega (arith, payload_length bytes fits.bytes))
named_long (Item.Event e) fits = (omega arith, event_length Version.Two e fits)
named_long (Item.End count) fits = (omega arith, omega arith)
named_long Item.More fits = absurd fits

header_length : (version : Version) (setup : Configuration) → length (header_cells_in version setup) ≤ 15 + length setup.streams
header_length Version.One setup = omega (arith, length-map setup.streams (field FieldName.StreamHost))
header_length Version.Two setup = omega (arith, length-map setup.streams (field FieldName.StreamHost))

first_long : (version : Version) (item : Item) → IsFirst item → (0 < length (item_cells version item)) × (length (item_cells version item) ≤ 370)
first_long version (Item.Header own setup) fits = (omega arith, omega (arith, header_length own setup, fits.limits.streams))
first_long version (Item.Name stream name) fits = absurd fits
first_long version (Item.Opened line bytes) fits = absurd fits
first_long version (Item.Event e) fits = absurd fits
first_long version (Item.End count) fits = absurd fits
first_long version Item.More fits = absurd fits

-- whatever the stage
pub record_long : (stage : Stage) (item : Item) → Allows stage item → (0 < item_length stage item) × (item_length stage item ≤ 370)
record_long Stage.Start item fits = first_long Version.One item fits
record_long (Stage.Names streams lines next) item fits = named_long item fits
record_long (Stage.Openings version lines next) item fits = next_long version item fits
record_long (Stage.Events version count) item fits = later_long version item fits
record_long (Stage.Ended count) item fits = absurd fits

-- a record that is cut short is shorter
cut_short : (stage : Stage) (bytes : List ℕ) → IsCutShort (Allows stage) (cells_at stage) bytes → length bytes < 370
cut_short stage bytes o =
    let size : item_length stage o.value ≡ length (bytes ++ o.next ∷ o.more) = sym (length-map (cells_at stage o.value) (λ (c : Cell). c.byte)) ∙ ap (length {A = ℕ}) o.spelled in
    omega (arith, size, length-append bytes (o.next ∷ o.more), (record_long stage o.value o.fits).1)

-- what a whole record comes to isn't More, since More is no record
no_more : (stage : Stage) → Allows stage Item.More → ⊥
no_more stage fits = omega (arith, (record_long stage Item.More fits).0)

chosen : (place : ℕ) (fault : Option Reason) (found : Item) → ◌≡◌ {A = Result Item TraceFault} (Ok Item.More) (option_map_or (λ reason. Err (fault_at place reason)) fault (Ok found)) → found ≡ Item.More
chosen place None found e = cc
chosen place (Some reason) found e = absurd cc

reads_short : (stage : Stage) (place : ℕ) (bytes : List ℕ) (answer : Result (Item × ℕ) DecodeRefusal) → Answers (Allows stage) (cells_at stage) bytes answer
    → ◌≡◌ {A = Result Item TraceFault} (Ok Item.More) (outcome_of stage place answer) → length bytes < 370
reads_short stage place bytes (Ok found) o e =
    absurd (no_more stage (subst (λ (i : Item). Allows stage i) (chosen place (record_fault stage found.0) found.0 e) o.fits))
reads_short stage place bytes (Err DecodeRefusal.Short) o e = cut_short stage bytes o
reads_short stage place bytes (Err (DecodeRefusal.Kind at)) o e = absurd cc
reads_short stage place bytes (Err (DecodeRefusal.Field at which)) o e = absurd cc

none_behind : (place count : ℕ) (bytes : List ℕ) → Says (Stage.Ended count) place bytes (Ok Item.More) → length bytes < 370
none_behind place count [] e = omega arith
none_behind place count (b ∷ bytes) e = absurd cc

-- where more is wanted there is room for more
says_short : (stage : Stage) (place : ℕ) (bytes : List ℕ) → Says stage place bytes (Ok Item.More) → length bytes < 370
says_short Stage.Start place bytes o = reads_short Stage.Start place bytes o.answer o.answered o.comes_to
says_short (Stage.Names streams lines next) place bytes o = reads_short (Stage.Names streams lines next) place bytes o.answer o.answered o.comes_to
says_short (Stage.Openings version lines next) place bytes o = reads_short (Stage.Openings version lines next) place bytes o.answer o.answered o.comes_to
says_short (Stage.Events version count) place bytes o = reads_short (Stage.Events version count) place bytes o.answer o.answered o.comes_to
says_short (Stage.Ended count) place bytes o = none_behind place count bytes o

room_for : (fault : Option TraceFault) (stage : Stage) (place : ℕ) (waiting : List ℕ) → Repeats fault (Says stage place waiting (Ok Item.More)) (Ok Item.More) → length waiting < 370
room_for None stage place waiting says = says_short stage place waiting says
room_for (Some fault) stage place waiting e = absurd cc

pub room_left : (reading : Reading) (outcome : Result Item TraceFault) → Answered reading outcome → outcome ≡ Ok Item.More → length (after_next reading outcome).waiting < 370
room_left reading (Ok (Item.Header version setup)) says more = absurd cc
room_left reading (Ok (Item.Name stream name)) says more = absurd cc
room_left reading (Ok (Item.Opened line bytes)) says more = absurd cc
room_left reading (Ok (Item.Event e)) says more = absurd cc
room_left reading (Ok (Item.End count)) says more = absurd cc
room_left reading (Ok Item.More) says more = room_for reading.fault reading.stage reading.place reading.waiting says
room_left reading (Err fault) says more = absurd cc

-- an item's bytes don't wait any more
item_taken : (fault : Option TraceFault) (stage : Stage) (place : ℕ) (waiting : List ℕ) (item : Item) → Repeats fault (Says stage place waiting (Ok item)) (Ok item) → (item ≡ Item.More → ⊥) → length (drop (item_length stage item) waiting) < length waiting
item_taken None stage place waiting item says some =
    let o = item_stands stage place waiting item says some in
    let within : item_length stage item ≤ length waiting = record_within (Allows stage) (cells_at stage) waiting [] item (item_length stage item) o.begins in
    omega (arith, length-drop (item_length stage item) waiting, within, (record_long stage item o.begins.fits).0)
item_taken (Some fault) stage place waiting item e some = absurd cc

pub fewer_wait : (reading : Reading) (outcome : Result Item TraceFault) → Answered reading outcome → IsGiven outcome → length (after_next reading outcome).waiting < length reading.waiting
fewer_wait reading (Ok (Item.Header version setup)) says given = item_taken reading.fault reading.stage reading.place reading.waiting (Item.Header version setup) says (λ e. cc)
fewer_wait reading (Ok (Item.Name stream name)) says given = item_taken reading.fault reading.stage reading.place reading.waiting (Item.Name stream name) says (λ e. cc)
fewer_wait reading (Ok (Item.Opened line bytes)) says given = item_taken reading.fault reading.stage reading.place reading.waiting (Item.Opened line bytes) says (λ e. cc)
fewer_wait reading (Ok (Item.Event e)) says given = item_taken reading.fault reading.stage reading.place reading.waiting (Item.Event e) says (λ same. cc)
fewer_wait reading (Ok (Item.End count)) says given = item_taken reading.fault reading.stage reading.place reading.waiting (Item.End count) says (λ e. cc)
fewer_wait reading (Ok Item.More) says given = absurd given
fewer_wait reading (Err fault) says given = absurd given

-- an item's bytes are still among those that were fed
item_fed : (fault : Option TraceFault) (stage : Stage) (place : ℕ) (waiting : List ℕ) (item : Item) → Repeats fault (Says stage place waiting (Ok item)) (Ok item) → (item ≡ Item.More → ⊥)
    → place + item_length stage item + length (drop (item_length stage item) waiting) ≡ place + length waiting
item_fed None stage place waiting item says some =
    let o = item_stands stage place waiting item says some in
    let within : item_length stage item ≤ length waiting = record_within (Allows stage) (cells_at stage) waiting [] item (item_length stage item) o.begins in
    omega (arith, length-drop (item_length stage item) waiting, within)
item_fed (Some fault) stage place waiting item e some = absurd cc

-- an answer feeds nothing
pub fed_kept : (reading : Reading) (outcome : Result Item TraceFault) → Answered reading outcome → fed_count (after_next reading outcome) ≡ fed_count reading
fed_kept reading (Ok (Item.Header version setup)) says = item_fed reading.fault reading.stage reading.place reading.waiting (Item.Header version setup) says (λ e. cc)
fed_kept reading (Ok (Item.Name stream name)) says = item_fed reading.fault reading.stage reading.place reading.waiting (Item.Name stream name) says (λ e. cc)
fed_kept reading (Ok (Item.Opened line bytes)) says = item_fed reading.fault reading.stage reading.place reading.waiting (Item.Opened line bytes) says (λ e. cc)
fed_kept reading (Ok (Item.Event e)) says = item_fed reading.fault reading.stage reading.place reading.waiting (Item.Event e) says (λ same. cc)
fed_kept reading (Ok (Item.End count)) says = item_fed reading.fault reading.stage reading.place reading.waiting (Item.End count) says (λ e. cc)
fed_kept reading (Ok Item.More) says = omega arith
fed_kept reading (Err fault) says = refl

-- after More or a fault nothing more is given
pause_at : (fault : Option TraceFault) (stage : Stage) (place : ℕ) (waiting : List ℕ) → Repeats fault (Says stage place waiting (Ok Item.More)) (Ok Item.More) → IfNone fault (Says stage (place + 0) waiting (Ok Item.More))
pause_at None stage place waiting says = subst (λ (n : ℕ). Says stage n waiting (Ok Item.More)) (sym (add-zero place)) says
pause_at (Some fault) stage place waiting e = tt

pub drained_after : (reading : Reading) (outcome : Result Item TraceFault) → Answered reading outcome → IsPause outcome → IsDrained (after_next reading outcome)
drained_after reading (Ok (Item.Header version setup)) says pause = absurd pause
drained_after reading (Ok (Item.Name stream name)) says pause = absurd pause
drained_after reading (Ok (Item.Opened line bytes)) says pause = absurd pause
drained_after reading (Ok (Item.Event e)) says pause = absurd pause
drained_after reading (Ok (Item.End count)) says pause = absurd pause
drained_after reading (Ok Item.More) says pause = pause_at reading.fault reading.stage reading.place reading.waiting says
drained_after reading (Err fault) says pause = tt
