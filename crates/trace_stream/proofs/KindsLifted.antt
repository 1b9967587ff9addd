-- The answers on each kind of record, lifted to the kinds that may come at a stage.
use Rattle.std.proofs.Common.{◌≡◌, ℕ, ◌+◌, ◌<◌, true, false, List, length, take, Result, Ok, Err, refl, arith}
use Rattle.cxl_message.specs.Setup.{Configuration}
use Rattle.cxl_message.specs.declared.identifiers.Line.{Line}
use Rattle.cxl_message.specs.declared.identifiers.Bytes64.{Bytes64}
use Rattle.cxl_message.specs.declared.events.Event.{Event}
use Rattle.cxl_codec.specs.declared.refusals.DecodeRefusal.{DecodeRefusal}
use Rattle.cxl_codec.specs.Cells.{bytes_of}
use Rattle.cxl_codec.specs.declared.versions.Version.{Version}
use Rattle.cxl_codec.specs.Header.{VersionedFits, versioned_cells}
use Rattle.cxl_codec.specs.NameRecord.{NameFits, name_cells}
use Rattle.cxl_codec.specs.Openings.{opening_cells, OpeningFits}
use Rattle.cxl_codec.specs.Events.{EventFitsIn, event_cells_in}
use Rattle.cxl_codec.specs.EndRecord.{end_cells, EndFits}
use Rattle.cxl_codec.specs.Grammar.{Answers}
use Rattle.trace_stream.specs.declared.items.Item.{Item}
use Rattle.trace_stream.specs.declared.items.Found.{Found}
use Rattle.trace_stream.specs.declared.rooms.Room.{Room}
use Rattle.trace_stream.specs.declared.items.TraceFault.{TraceFault}
use Rattle.trace_stream.specs.declared.stages.Stage.{Stage}
use Rattle.trace_stream.specs.Items.{item_cells, item_of, answer_of, IsFirst, IsLater, IsNamed, IsNext, IsOpen, ReadsAs, Says, begins_with}
use Rattle.trace_stream.specs.Runs.{name_item}
use Rattle.trace_stream.proofs.Heads.{agent_small, other_head, that_head}
use Rattle.trace_stream.proofs.Lifting.{Comes, into_answer, lift_answer}

-- bytes agree with the record of an item through a place
abbrev pub Agrees : Version → List ℕ → ℕ → Item → Type 0
Agrees version bytes at item = take (at + 1) (bytes_of (item_cells version item)) ≡ take (at + 1) bytes

-- the item of a header
abbrev pub headed : Version × Configuration → Item
headed header = Item.Header header.0 header.1

-- a header is all that comes first
pub back_header : (version : Version) (bytes : List ℕ) (item : Item) (at : ℕ) → at < length bytes → IsFirst item → Agrees version bytes at item → Comes VersionedFits headed item
back_header version bytes (Item.Header own setup) at within fits e = record { value = (own, setup); fits = fits; is = refl }
back_header version bytes (Item.Name stream name) at within fits e = absurd fits
back_header version bytes (Item.Opened line value) at within fits e = absurd fits
back_header version bytes (Item.Event event) at within fits e = absurd fits
back_header version bytes (Item.End count) at within fits e = absurd fits
back_header version bytes Item.More at within fits e = absurd fits

pub lift_header : (version : Version) (bytes : List ℕ) (a : Result ((Version × Configuration) × ℕ) DecodeRefusal) → Answers VersionedFits versioned_cells bytes a → Answers IsFirst (item_cells version) bytes (into_answer headed a)
lift_header version bytes a o = lift_answer VersionedFits versioned_cells IsFirst (item_cells version) headed (λ v. refl) (λ v fits. fits) bytes (back_header version bytes) a o

-- the item of an opening
abbrev pub opened : Line × Bytes64 → Item
opened pair = Item.Opened pair.0 pair.1

module _ (version : Version) where
  -- what begins with 0xff is an end record
  pub back_end : (bytes : List ℕ) → begins_with bytes 0xff ≡ true → (item : Item) (at : ℕ) → at < length bytes → IsLater version item → Agrees version bytes at item → Comes EndFits Item.End item
  back_end bytes begins (Item.Header own setup) at within fits e = absurd fits
  back_end bytes begins (Item.Name stream name) at within fits e = absurd fits
  back_end bytes begins (Item.Opened line value) at within fits e = absurd fits
  back_end bytes begins (Item.Event event) at within fits e =
      let same : event.agent ≡ 0xff = that_head event.agent _ bytes 0xff at within begins e in
      absurd (omega (arith, same, agent_small version event fits))
  back_end bytes begins (Item.End count) at within fits e = record { value = count; fits = fits; is = refl }
  back_end bytes begins Item.More at within fits e = absurd fits

  -- what doesn't is an event
  pub back_event : (bytes : List ℕ) → begins_with bytes 0xff ≡ false → (item : Item) (at : ℕ) → at < length bytes → IsLater version item → Agrees version bytes at item → Comes (EventFitsIn version) Item.Event item
  back_event bytes other (Item.Header own setup) at within fits e = absurd fits
  back_event bytes other (Item.Name stream name) at within fits e = absurd fits
  back_event bytes other (Item.Opened line value) at within fits e = absurd fits
  back_event bytes other (Item.Event event) at within fits e = record { value = event; fits = fits; is = refl }
  back_event bytes other (Item.End count) at within fits e = absurd (other_head 0xff _ bytes at within other e)
  back_event bytes other Item.More at within fits e = absurd fits

  -- what begins with 0xf0 is an opening
  pub back_opening : (bytes : List ℕ) → begins_with bytes 0xf0 ≡ true → (item : Item) (at : ℕ) → at < length bytes → IsNext version item → Agrees version bytes at item → Comes OpeningFits opened item
  back_opening bytes begins (Item.Header own setup) at within fits e = absurd fits
  back_opening bytes begins (Item.Name stream name) at within fits e = absurd fits
  back_opening bytes begins (Item.Opened line value) at within fits e = record { value = (line, value); fits = fits; is = refl }
  back_opening bytes begins (Item.Event event) at within fits e =
      let same : event.agent ≡ 0xf0 = that_head event.agent _ bytes 0xf0 at within begins e in
      absurd (omega (arith, same, agent_small version event fits))
  back_opening bytes begins (Item.End count) at within fits e =
      let same : 0xff ≡ 0xf0 = that_head 0xff _ bytes 0xf0 at within begins e in
      absurd (omega (arith, same))
  back_opening bytes begins Item.More at within fits e = absurd fits

  -- what doesn't is an event or the end
  pub back_later : (bytes : List ℕ) → begins_with bytes 0xf0 ≡ false → (item : Item) (at : ℕ) → at < length bytes → IsNext version item → Agrees version bytes at item → Comes {V = Item} (IsLater version) (λ i. i) item
  back_later bytes other (Item.Header own setup) at within fits e = absurd fits
  back_later bytes other (Item.Name stream name) at within fits e = absurd fits
  back_later bytes other (Item.Opened line value) at within fits e = absurd (other_head 0xf0 _ bytes at within other e)
  back_later bytes other (Item.Event event) at within fits e = record { value = Item.Event event; fits = fits; is = refl }
  back_later bytes other (Item.End count) at within fits e = record { value = Item.End count; fits = fits; is = refl }
  back_later bytes other Item.More at within fits e = absurd fits

  -- what comes later may come next
  pub later_next : (item : Item) → IsLater version item → IsNext version item
  later_next (Item.Header own setup) fits = absurd fits
  later_next (Item.Name stream name) fits = absurd fits
  later_next (Item.Opened line value) fits = absurd fits
  later_next (Item.Event event) fits = fits
  later_next (Item.End count) fits = fits
  later_next Item.More fits = absurd fits

  pub lift_end : (bytes : List ℕ) (a : Result (ℕ × ℕ) DecodeRefusal) → begins_with bytes 0xff ≡ true → Answers EndFits end_cells bytes a → Answers (IsLater version) (item_cells version) bytes (into_answer Item.End a)
  lift_end bytes a begins o = lift_answer EndFits end_cells (IsLater version) (item_cells version) Item.End (λ v. refl) (λ v fits. fits) bytes (back_end bytes begins) a o

  pub lift_event : (bytes : List ℕ) (a : Result (Event × ℕ) DecodeRefusal) → begins_with bytes 0xff ≡ false → Answers (EventFitsIn version) (event_cells_in version) bytes a → Answers (IsLater version) (item_cells version) bytes (into_answer Item.Event a)
  lift_event bytes a other o = lift_answer (EventFitsIn version) (event_cells_in version) (IsLater version) (item_cells version) Item.Event (λ v. refl) (λ v fits. fits) bytes (back_event bytes other) a o

  pub lift_opening : (bytes : List ℕ) (a : Result ((Line × Bytes64) × ℕ) DecodeRefusal) → begins_with bytes 0xf0 ≡ true → Answers OpeningFits opening_cells bytes a → Answers (IsNext version) (item_cells version) bytes (into_answer opened a)
  lift_opening bytes a begins o = lift_answer OpeningFits opening_cells (IsNext version) (item_cells version) opened (λ v. refl) (λ v fits. fits) bytes (back_opening bytes begins) a o

  pub lift_later : (bytes : List ℕ) (a : Result (Item × ℕ) DecodeRefusal) → begins_with bytes 0xf0 ≡ false → Answers (IsLater version) (item_cells version) bytes a → Answers (IsNext version) (item_cells version) bytes (into_answer (λ (i : Item). i) a)
  lift_later bytes a other o = lift_answer (IsLater version) (item_cells version) (IsNext version) (item_cells version) (λ (i : Item). i) (λ v. refl) later_next bytes (back_later bytes other) a o

-- what begins with 0xf1 is a name
pub back_name : (bytes : List ℕ) → begins_with bytes 0xf1 ≡ true → (item : Item) (at : ℕ) → at < length bytes → IsNamed item → Agrees Version.Two bytes at item → Comes NameFits name_item item
back_name bytes begins (Item.Header own setup) at within fits e = absurd fits
back_name bytes begins (Item.Name stream name) at within fits e = record { value = (stream, name.items); fits = fits; is = refl }
back_name bytes begins (Item.Opened line value) at within fits e =
    let same : 0xf0 ≡ 0xf1 = that_head 0xf0 _ bytes 0xf1 at within begins e in
    absurd (omega (arith, same))
back_name bytes begins (Item.Event event) at within fits e =
    let same : event.agent ≡ 0xf1 = that_head event.agent _ bytes 0xf1 at within begins e in
    absurd (omega (arith, same, agent_small Version.Two event fits))
back_name bytes begins (Item.End count) at within fits e =
    let same : 0xff ≡ 0xf1 = that_head 0xff _ bytes 0xf1 at within begins e in
    absurd (omega (arith, same))
back_name bytes begins Item.More at within fits e = absurd fits

-- what doesn't is an opening, an event or the end
pub back_next : (bytes : List ℕ) → begins_with bytes 0xf1 ≡ false → (item : Item) (at : ℕ) → at < length bytes → IsNamed item → Agrees Version.Two bytes at item → Comes {V = Item} (IsNext Version.Two) (λ i. i) item
back_next bytes other (Item.Header own setup) at within fits e = absurd fits
back_next bytes other (Item.Name stream name) at within fits e = absurd (other_head 0xf1 _ bytes at within other e)
back_next bytes other (Item.Opened line value) at within fits e = record { value = Item.Opened line value; fits = fits; is = refl }
back_next bytes other (Item.Event event) at within fits e = record { value = Item.Event event; fits = fits; is = refl }
back_next bytes other (Item.End count) at within fits e = record { value = Item.End count; fits = fits; is = refl }
back_next bytes other Item.More at within fits e = absurd fits

-- what comes next may come where streams may be named
pub next_named : (item : Item) → IsNext Version.Two item → IsNamed item
next_named (Item.Header own setup) fits = absurd fits
next_named (Item.Name stream name) fits = absurd fits
next_named (Item.Opened line value) fits = fits
next_named (Item.Event event) fits = fits
next_named (Item.End count) fits = fits
next_named Item.More fits = absurd fits

pub lift_name : (bytes : List ℕ) (a : Result ((ℕ × List ℕ) × ℕ) DecodeRefusal) → begins_with bytes 0xf1 ≡ true → Answers NameFits name_cells bytes a → Answers IsNamed (item_cells Version.Two) bytes (into_answer name_item a)
lift_name bytes a begins o = lift_answer NameFits name_cells IsNamed (item_cells Version.Two) name_item (λ v. refl) (λ v fits. fits) bytes (back_name bytes begins) a o

pub lift_next : (bytes : List ℕ) (a : Result (Item × ℕ) DecodeRefusal) → begins_with bytes 0xf1 ≡ false → Answers (IsNext Version.Two) (item_cells Version.Two) bytes a → Answers IsNamed (item_cells Version.Two) bytes (into_answer (λ (i : Item). i) a)
lift_next bytes a other o = lift_answer (IsNext Version.Two) (item_cells Version.Two) IsNamed (item_cells Version.Two) (λ (i : Item). i) (λ v. refl) next_named bytes (back_next bytes other) a o

-- the same of what was found
pub lift_found_later : (version : Version) (bytes : List ℕ) (room : Room) (r : Result (Found × ℕ) DecodeRefusal) → begins_with bytes 0xf0 ≡ false → Answers (IsLater version) (item_cells version) bytes (answer_of room r)
    → Answers (IsNext version) (item_cells version) bytes (answer_of room r)
lift_found_later version bytes room (Ok found) other o = lift_later version bytes (Ok (item_of room found.0, found.1)) other o
lift_found_later version bytes room (Err refusal) other o = lift_later version bytes (Err refusal) other o

pub lift_found_next : (bytes : List ℕ) (room : Room) (r : Result (Found × ℕ) DecodeRefusal) → begins_with bytes 0xf1 ≡ false → Answers (IsNext Version.Two) (item_cells Version.Two) bytes (answer_of room r)
    → Answers IsNamed (item_cells Version.Two) bytes (answer_of room r)
lift_found_next bytes room (Ok found) other o = lift_next bytes (Ok (item_of room found.0, found.1)) other o
lift_found_next bytes room (Err refusal) other o = lift_next bytes (Err refusal) other o

-- what the records that may come say is what the bytes say, as long as the end wasn't read
pub says_open : (stage : Stage) (place : ℕ) (bytes : List ℕ) (outcome : Result Item TraceFault) → ((count : ℕ) → stage ≡ Stage.Ended count → ⊥) → ReadsAs stage place bytes outcome → Says stage place bytes outcome
says_open Stage.Start place bytes outcome open_stage o = o
says_open (Stage.Names streams lines next) place bytes outcome open_stage o = o
says_open (Stage.Openings version lines next) place bytes outcome open_stage o = o
says_open (Stage.Events version count) place bytes outcome open_stage o = o
says_open (Stage.Ended count) place bytes outcome open_stage o = absurd (open_stage count refl)

-- the end wasn't read
pub open_of : (stage : Stage) → ((count : ℕ) → stage ≡ Stage.Ended count → ⊥) → IsOpen stage
open_of Stage.Start h = tt
open_of (Stage.Names streams lines next) h = tt
open_of (Stage.Openings version lines next) h = tt
open_of (Stage.Events version count) h = tt
open_of (Stage.Ended count) h = absurd (h count refl)
