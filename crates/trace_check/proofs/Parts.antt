-- The parts of items that follow one another: one header, then openings, then events.
use Rattle.std.proofs.Common.{◌≡◌, ℕ, ◌+◌, ◌≤◌, List, [], ◌∷◌, ◌++◌, length, Some, None, Bool, true, false, cond, eqb, refl, sym, ap, ◌∙◌, append-nil, length-append, arith}
use Rattle.std.specs.List.{flat_map}
use Rattle.std.proofs.lemmas.Bool.{eqb-true}
use Rattle.std.proofs.lemmas.Grind.{flat_map-append}
use Rattle.std.proofs.lemmas.List.{length-map}
use Rattle.cxl_message.specs.Setup.{Configuration}
use Rattle.cxl_message.specs.declared.identifiers.Bytes64.{Bytes64}
use Rattle.cxl_message.specs.declared.identifiers.Line.{Line}
use Rattle.cxl_codec.specs.Cells.{Cell}
use Rattle.cxl_codec.specs.declared.versions.Version.{Version}
use Rattle.trace_stream.specs.declared.items.Item.{Item}
use Rattle.trace_stream.specs.declared.items.Reason.{Reason}
use Rattle.trace_stream.specs.declared.stages.Stage.{Stage}
use Rattle.trace_stream.specs.Items.{Allows, advance, after_header, cells_at, event_count, record_fault}
use Rattle.trace_stream.specs.Runs.{Follow, bytes_from, item_bytes, stage_after}
use Rattle.trace_stream.proofs.Pauses.{record_long}
use Rattle.trace_check.specs.Items.{event_part, events_in, opening_part, openings_in, setup_part, setups_in}

-- ---- one item more

-- the parts of one item more
more_parts : {X : Type 0} (part : Item → List X) (items : List Item) (item : Item) → flat_map part (items ++ item ∷ []) ≡ flat_map part items ++ part item
more_parts part items item = flat_map-append part items (item ∷ []) ∙ ap (λ (l : List _). flat_map part items ++ l) (append-nil (part item))

pub setups_more : (items : List Item) (item : Item) → setups_in (items ++ item ∷ []) ≡ setups_in items ++ setup_part item
setups_more items item = more_parts setup_part items item

pub openings_more : (items : List Item) (item : Item) → openings_in (items ++ item ∷ []) ≡ openings_in items ++ opening_part item
openings_more items item = more_parts opening_part items item

pub events_more : (items : List Item) (item : Item) → events_in (items ++ item ∷ []) ≡ events_in items ++ event_part item
events_more items item = more_parts event_part items item

-- a list with an element isn't empty
pub not_empty : {X : Type 0} (xs : List X) (x : X) → xs ++ x ∷ [] ≡ [] → ⊥
not_empty [] x e = cc
not_empty (y ∷ xs) x e = cc

-- what stands before the last of some items, and the last one
pub record Ends (stage : Stage) (items : List Item) (item : Item) : Type 0 where
  pub front : Follow stage items
  pub allowed : Allows (stage_after stage items) item
  pub right : record_fault (stage_after stage items) item ≡ None

pub ends : (stage : Stage) (items : List Item) (item : Item) → Follow stage (items ++ item ∷ []) → Ends stage items item
ends stage [] item follow = record { front = tt; allowed = follow.0; right = follow.1 }
ends stage (first ∷ items) item follow =
    let rest = ends (advance stage first) items item follow.2 in record { front = (follow.0, follow.1, rest.front); allowed = rest.allowed; right = rest.right }

-- ---- the header

-- the header was read
abbrev IsBehind : Stage → Type 0
IsBehind Stage.Start = ⊥
IsBehind (Stage.Names streams lines next) = Unit {0}
IsBehind (Stage.Openings version lines next) = Unit {0}
IsBehind (Stage.Events version count) = Unit {0}
IsBehind (Stage.Ended count) = Unit {0}

no_second : (stage : Stage) (version : Version) (setup : Configuration) → IsBehind stage → Allows stage (Item.Header version setup) → ⊥
no_second Stage.Start version setup behind allowed = behind
no_second (Stage.Names streams lines next) version setup behind allowed = allowed
no_second (Stage.Openings own lines next) version setup behind allowed = allowed
no_second (Stage.Events own count) version setup behind allowed = allowed
no_second (Stage.Ended count) version setup behind allowed = allowed

behind_header : (version : Version) (setup : Configuration) → IsBehind (after_header version setup)
behind_header Version.One setup = tt
behind_header Version.Two setup = tt

-- behind a header there is no other one
no_header : (stage : Stage) (items : List Item) → IsBehind stage → Follow stage items → setups_in items ≡ []
no_header stage [] behind follow = refl
no_header stage (Item.Header version setup ∷ items) behind follow = absurd (no_second stage version setup behind follow.0)
no_header stage (Item.Name stream name ∷ items) behind follow = no_header (advance stage (Item.Name stream name)) items tt follow.2
no_header stage (Item.Opened line bytes ∷ items) behind follow = no_header (advance stage (Item.Opened line bytes)) items tt follow.2
no_header stage (Item.Event e ∷ items) behind follow = no_header (advance stage (Item.Event e)) items tt follow.2
no_header stage (Item.End count ∷ items) behind follow = no_header (advance stage (Item.End count)) items tt follow.2
no_header stage (Item.More ∷ items) behind follow = no_header stage items behind follow.2

-- nothing stands before a header
pub header_first : (items : List Item) (version : Version) (setup : Configuration) → Follow Stage.Start (items ++ Item.Header version setup ∷ []) → items ≡ []
header_first [] version setup follow = refl
header_first (Item.Header own first ∷ items) version setup follow =
    let none = no_header (after_header own first) (items ++ Item.Header version setup ∷ []) (behind_header own first) follow.2 in
    absurd (not_empty (setups_in items) setup (sym (setups_more items (Item.Header version setup)) ∙ none))
header_first (Item.Name stream name ∷ items) version setup follow = absurd follow.0
header_first (Item.Opened line bytes ∷ items) version setup follow = absurd follow.0
header_first (Item.Event e ∷ items) version setup follow = absurd follow.0
header_first (Item.End count ∷ items) version setup follow = absurd follow.0
header_first (Item.More ∷ items) version setup follow = absurd follow.0

-- ---- events come behind the openings

-- nothing follows the end record
nothing_behind : (count : ℕ) (items : List Item) → Follow (Stage.Ended count) items → items ≡ []
nothing_behind count [] follow = refl
nothing_behind count (item ∷ items) follow = absurd follow.0

pub nothing_opened : (count : ℕ) (items : List Item) → Follow (Stage.Ended count) items → openings_in items ≡ []
nothing_opened count items follow = ap openings_in (nothing_behind count items follow)

-- behind an event no line is opened
pub no_opening : (version : Version) (count : ℕ) (items : List Item) → Follow (Stage.Events version count) items → openings_in items ≡ []
no_opening version count [] follow = refl
no_opening version count (Item.Header own setup ∷ items) follow = absurd follow.0
no_opening version count (Item.Name stream name ∷ items) follow = absurd follow.0
no_opening version count (Item.Opened line bytes ∷ items) follow = absurd follow.0
no_opening version count (Item.Event e ∷ items) follow = no_opening version (count + 1) items follow.2
no_opening version count (Item.End n ∷ items) follow = nothing_opened n items follow.2
no_opening version count (Item.More ∷ items) follow = absurd follow.0

-- where a line is opened, no event was read
pub opening_first : (stage : Stage) (items : List Item) (line : Line) (bytes : Bytes64) → Follow stage (items ++ Item.Opened line bytes ∷ []) → events_in items ≡ []
opening_first stage [] line bytes follow = refl
opening_first stage (Item.Header version setup ∷ items) line bytes follow = opening_first (advance stage (Item.Header version setup)) items line bytes follow.2
opening_first stage (Item.Name stream name ∷ items) line bytes follow = opening_first (advance stage (Item.Name stream name)) items line bytes follow.2
opening_first stage (Item.Opened other own ∷ items) line bytes follow = opening_first (advance stage (Item.Opened other own)) items line bytes follow.2
opening_first stage (Item.Event e ∷ items) line bytes follow =
    let none = no_opening _ _ (items ++ Item.Opened line bytes ∷ []) follow.2 in
    absurd (not_empty (openings_in items) (line, bytes) (sym (openings_more items (Item.Opened line bytes)) ∙ none))
opening_first stage (Item.End count ∷ items) line bytes follow = absurd (not_empty items (Item.Opened line bytes) (nothing_behind count (items ++ Item.Opened line bytes ∷ []) follow.2))
opening_first stage (Item.More ∷ items) line bytes follow = opening_first stage items line bytes follow.2

-- ---- numbers of events

-- a test that found nothing wrong
passed : (b : Bool) (reason : Reason) → cond b None (Some reason) ≡ None → b ≡ true
passed true reason e = refl
passed false reason e = absurd cc

none_behind_header : (version : Version) (setup : Configuration) → event_count (after_header version setup) ≡ 0
none_behind_header Version.One setup = refl
none_behind_header Version.Two setup = refl

-- where there is no event, none is counted
pub none_counted : (stage : Stage) (items : List Item) → Follow stage items → event_count stage ≡ 0 → events_in items ≡ [] → event_count (stage_after stage items) ≡ 0
none_counted stage [] follow start none = start
none_counted stage (Item.Header version setup ∷ items) follow start none = none_counted (after_header version setup) items follow.2 (none_behind_header version setup) none
none_counted stage (Item.Name stream name ∷ items) follow start none = none_counted (advance stage (Item.Name stream name)) items follow.2 refl none
none_counted stage (Item.Opened line bytes ∷ items) follow start none = none_counted (advance stage (Item.Opened line bytes)) items follow.2 refl none
none_counted stage (Item.Event e ∷ items) follow start none = absurd cc
none_counted stage (Item.End count ∷ items) follow start none =
    none_counted (Stage.Ended count) items follow.2 (eqb-true count (event_count stage) (passed (eqb count (event_count stage)) Reason.Count follow.1) ∙ start) none
none_counted stage (Item.More ∷ items) follow start none = none_counted stage items follow.2 start none

-- an item is at most one event
one_at_most : (item : Item) → length (event_part item) ≤ 1
one_at_most (Item.Header version setup) = omega arith
one_at_most (Item.Name stream name) = omega arith
one_at_most (Item.Opened line bytes) = omega arith
one_at_most (Item.Event e) = omega arith
one_at_most (Item.End count) = omega arith
one_at_most Item.More = omega arith

-- there are no more events than bytes
pub few_events : (stage : Stage) (items : List Item) → Follow stage items → length (events_in items) ≤ length (bytes_from stage items)
few_events stage [] follow = omega arith
few_events stage (item ∷ items) follow =
    omega (
      arith,
      one_at_most item,
      (record_long stage item follow.0).0,
      length-map (cells_at stage item) (λ (c : Cell). c.byte),
      length-append (event_part item) (events_in items),
      length-append (item_bytes stage item) (bytes_from (advance stage item) items),
      few_events (advance stage item) items follow.2,
    )
