-- The parts of items that follow one another: one header, and events.
use Rattle.std.proofs.Common.{◌≡◌, ℕ, ◌+◌, ◌≤◌, List, [], ◌∷◌, ◌++◌, length, refl, sym, ap, subst, ◌∙◌, append-nil, append_assoc, length-append, arith}
use Rattle.std.specs.Prelude.{Err, IsErr, Ok, OnErr, OnOk, Result}
use Rattle.std.specs.List.{flat_map}
use Rattle.std.proofs.lemmas.Grind.{flat_map-append}
use Rattle.std.proofs.lemmas.List.{length-map}
use Rattle.cxl_message.specs.Setup.{Configuration}
use Rattle.cxl_message.specs.declared.events.Event.{Event}
use Rattle.cxl_codec.specs.Cells.{Cell}
use Rattle.cxl_codec.specs.declared.versions.Version.{Version}
use Rattle.cxl_view.specs.Tallies.{Counts, counts_of}
use Rattle.trace_stream.specs.declared.items.Item.{Item}
use Rattle.trace_stream.specs.declared.stages.Stage.{Stage}
use Rattle.trace_stream.specs.Items.{Allows, advance, after_header, cells_at}
use Rattle.trace_stream.specs.Runs.{Follow, bytes_from, item_bytes}
use Rattle.trace_stream.proofs.Pauses.{record_long}
use Rattle.trace_viewer.specs.Items.{counts_in, event_part, events_in, item_text, lines_in, number_after, shown_from, shown_items}

-- ---- one item more

-- the events of one item more
pub events_more : (items : List Item) (item : Item) → events_in (items ++ item ∷ []) ≡ events_in items ++ event_part item
events_more items item = flat_map-append event_part items (item ∷ []) ∙ ap (λ (l : List Event). events_in items ++ l) (append-nil (event_part item))

-- an item that is no header leaves the number of lines
pub lines_more : (items : List Item) (item : Item) → lines_in (item ∷ []) ≡ 0 → lines_in (items ++ item ∷ []) ≡ lines_in items
lines_more [] item none = none
lines_more (Item.Header version setup ∷ items) item none = refl
lines_more (Item.Name stream name ∷ items) item none = lines_more items item none
lines_more (Item.Opened line bytes ∷ items) item none = lines_more items item none
lines_more (Item.Event e ∷ items) item none = lines_more items item none
lines_more (Item.End count ∷ items) item none = lines_more items item none
lines_more (Item.More ∷ items) item none = lines_more items item none

-- an item moves the number of events by those that it is
number_moves : (number : ℕ) (item : Item) → number_after number item ≡ number + length (event_part item)
number_moves number (Item.Header version setup) = omega arith
number_moves number (Item.Name stream name) = omega arith
number_moves number (Item.Opened line bytes) = omega arith
number_moves number (Item.Event e) = omega arith
number_moves number (Item.End count) = omega arith
number_moves number Item.More = omega arith

-- the lines of one item more, which has the number of the events before it
shown_more_from : (number : ℕ) (items : List Item) (item : Item) → shown_from number (items ++ item ∷ []) ≡ shown_from number items ++ item_text (number + length (events_in items)) item
shown_more_from number [] item =
    let same : number ≡ number + 0 = omega arith in
    append-nil (item_text number item) ∙ ap (λ (n : ℕ). item_text n item) same
shown_more_from number (first ∷ items) item =
    let moved = number_moves number first in
    let both = length-append (event_part first) (events_in items) in
    let same : number_after number first + length (events_in items) ≡ number + length (events_in (first ∷ items)) = omega (arith, moved, both) in
    ap (λ (l : List ℕ). item_text number first ++ l) (shown_more_from (number_after number first) items item ∙ ap (λ (n : ℕ). shown_from (number_after number first) items ++ item_text n item) same)
    ∙ sym (append_assoc (item_text number first) (shown_from (number_after number first) items) (item_text (number + length (events_in (first ∷ items))) item))

pub shown_more : (items : List Item) (item : Item) → shown_items (items ++ item ∷ []) ≡ shown_items items ++ item_text (length (events_in items)) item
shown_more items item =
    let same : 0 + length (events_in items) ≡ length (events_in items) = omega arith in
    shown_more_from 0 items item ∙ ap (λ (n : ℕ). shown_items items ++ item_text n item) same

-- a list with an element isn't empty
not_empty : {X : Type 0} (xs : List X) (x : X) → xs ++ x ∷ [] ≡ [] → ⊥
not_empty [] x e = cc
not_empty (y ∷ xs) x e = cc

-- ---- the header

-- the setup of an item, if it is a header
abbrev header_part : Item → List Configuration
header_part (Item.Header version setup) = setup ∷ []
header_part (Item.Name stream name) = []
header_part (Item.Opened line bytes) = []
header_part (Item.Event e) = []
header_part (Item.End count) = []
header_part Item.More = []

-- the setups of the headers among some items
abbrev headers_in : List Item → List Configuration
headers_in items = flat_map header_part items

headers_more : (items : List Item) (item : Item) → headers_in (items ++ item ∷ []) ≡ headers_in items ++ header_part item
headers_more items item = flat_map-append header_part items (item ∷ []) ∙ ap (λ (l : List Configuration). headers_in items ++ l) (append-nil (header_part item))

-- the header was read
abbrev IsBehind : Stage → Type 0
IsBehind Stage.Start = ⊥
IsBehind (Stage.Names streams lines next) = Unit {0}
IsBehind (Stage.Openings version lines next) = Unit {0}
IsBehind (Stage.Events version count) = Unit {0}
IsBehind (Stage.Ended count) = Unit {0}

no_second : (stage : Stage) (version : Version) (setup : Configuration) → IsBehind stage → Allows stage (Item.Header version setup) → ⊥
no_second Stage.Start version setup behind allowed = behind
no_second (Stage.Names streams lines next) version setup behind allowed = allowed
no_second (Stage.Openings own lines next) version setup behind allowed = allowed
no_second (Stage.Events own count) version setup behind allowed = allowed
no_second (Stage.Ended count) version setup behind allowed = allowed

behind_header : (version : Version) (setup : Configuration) → IsBehind (after_header version setup)
behind_header Version.One setup = tt
behind_header Version.Two setup = tt

-- behind a header there is no other one
no_header : (stage : Stage) (items : List Item) → IsBehind stage → Follow stage items → headers_in items ≡ []
no_header stage [] behind follow = refl
no_header stage (Item.Header version setup ∷ items) behind follow = absurd (no_second stage version setup behind follow.0)
no_header stage (Item.Name stream name ∷ items) behind follow = no_header (advance stage (Item.Name stream name)) items tt follow.2
no_header stage (Item.Opened line bytes ∷ items) behind follow = no_header (advance stage (Item.Opened line bytes)) items tt follow.2
no_header stage (Item.Event e ∷ items) behind follow = no_header (advance stage (Item.Event e)) items tt follow.2
no_header stage (Item.End count ∷ items) behind follow = no_header (advance stage (Item.End count)) items tt follow.2
no_header stage (Item.More ∷ items) behind follow = no_header stage items behind follow.2

-- nothing stands before a header
pub header_first : (items : List Item) (version : Version) (setup : Configuration) → Follow Stage.Start (items ++ Item.Header version setup ∷ []) → items ≡ []
header_first [] version setup follow = refl
header_first (Item.Header own first ∷ items) version setup follow =
    let none = no_header (after_header own first) (items ++ Item.Header version setup ∷ []) (behind_header own first) follow.2 in
    absurd (not_empty (headers_in items) setup (sym (headers_more items (Item.Header version setup)) ∙ none))
header_first (Item.Name stream name ∷ items) version setup follow = absurd follow.0
header_first (Item.Opened line bytes ∷ items) version setup follow = absurd follow.0
header_first (Item.Event e ∷ items) version setup follow = absurd follow.0
header_first (Item.End count ∷ items) version setup follow = absurd follow.0
header_first (Item.More ∷ items) version setup follow = absurd follow.0

-- ---- numbers of events

-- an item is at most one event
one_at_most : (item : Item) → length (event_part item) ≤ 1
one_at_most (Item.Header version setup) = omega arith
one_at_most (Item.Name stream name) = omega arith
one_at_most (Item.Opened line bytes) = omega arith
one_at_most (Item.Event e) = omega arith
one_at_most (Item.End count) = omega arith
one_at_most Item.More = omega arith

-- there are no more events than bytes
pub few_events : (stage : Stage) (items : List Item) → Follow stage items → length (events_in items) ≤ length (bytes_from stage items)
few_events stage [] follow = omega arith
few_events stage (item ∷ items) follow =
    omega (
      arith,
      one_at_most item,
      (record_long stage item follow.0).0,
      length-map (cells_at stage item) (λ (c : Cell). c.byte),
      length-append (event_part item) (events_in items),
      length-append (item_bytes stage item) (bytes_from (advance stage item) items),
      few_events (advance stage item) items follow.2,
    )

-- ---- what is counted

-- a header comes first, and nothing is counted then
pub header_counted : (items : List Item) (version : Version) (setup : Configuration) → Follow Stage.Start (items ++ Item.Header version setup ∷ []) → counts_of setup.lines [] ≡ counts_in (items ++ Item.Header version setup ∷ [])
header_counted items version setup follow =
    subst (λ (front : List Item). counts_of setup.lines [] ≡ counts_in (front ++ Item.Header version setup ∷ [])) (sym (header_first items version setup follow)) refl

-- an item that is neither a header nor an event isn't counted
pub silent_counted : (items : List Item) (item : Item) → lines_in (item ∷ []) ≡ 0 → event_part item ≡ [] → counts_in items ≡ counts_in (items ++ item ∷ [])
silent_counted items item lines none =
    ap (λ (n : ℕ). counts_of n (events_in items)) (sym (lines_more items item lines))
    ∙ ap (λ (l : List Event). counts_of (lines_in (items ++ item ∷ [])) l) (sym (events_more items item ∙ ap (λ (l : List Event). events_in items ++ l) none ∙ append-nil (events_in items)))

-- an event is counted last
pub event_counted : (items : List Item) (e : Event) (old new : Counts) → old ≡ counts_in items → ((events : List Event) → old ≡ counts_of old.lines events → new ≡ counts_of old.lines (events ++ e ∷ [])) → new ≡ counts_in (items ++ Item.Event e ∷ [])
event_counted items e old new same counts =
    let lines : old.lines ≡ lines_in items = ap (λ (c : Counts). c.lines) same in
    let own : old ≡ counts_of old.lines (events_in items) = same ∙ ap (λ (n : ℕ). counts_of n (events_in items)) (sym lines) in
    counts (events_in items) own ∙ ap (λ (n : ℕ). counts_of n (events_in items ++ e ∷ [])) lines ∙ ap (λ (n : ℕ). counts_of n (events_in items ++ e ∷ [])) (sym (lines_more items (Item.Event e) refl))
    ∙ ap (λ (l : List Event). counts_of (lines_in (items ++ Item.Event e ∷ [])) l) (sym (events_more items (Item.Event e)))

-- what holds in any case holds of a value
pub in_any_case : {T E P : Type 0} (r : Result T E) → P → OnOk r P
in_any_case (Ok value) holds = holds
in_any_case (Err error) holds = tt

-- and of an error
pub in_any_error : {T E P : Type 0} (r : Result T E) → P → OnErr r P
in_any_error (Ok value) holds = tt
in_any_error (Err error) holds = holds

-- an error is no value
pub no_value : {T E : Type 0} (P : Type 0) (r : Result T E) → IsErr r → OnOk r P
no_value P (Ok value) err = absurd cc
no_value P (Err error) err = tt
