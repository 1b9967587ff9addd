-- The parts of items that follow one another, and of a trace.
use Rattle.std.proofs.Common.{◌≡◌, ℕ, ◌≤◌, List, [], ◌∷◌, ◌++◌, length, map, refl, sym, ap, subst, ◌∙◌, append-nil, length-append, arith}
use Rattle.std.specs.List.{flat_map}
use Rattle.std.proofs.lemmas.Grind.{flat_map-append}
use Rattle.std.proofs.lemmas.List.{length-map}
use Rattle.cxl_message.specs.Setup.{Configuration}
use Rattle.cxl_message.specs.declared.events.Event.{Event}
use Rattle.cxl_message.specs.declared.identifiers.Bytes64.{Bytes64}
use Rattle.cxl_message.specs.declared.identifiers.Line.{Line}
use Rattle.cxl_codec.specs.Cells.{Cell}
use Rattle.cxl_codec.specs.declared.versions.Version.{Version}
use Rattle.trace_stream.specs.declared.items.Item.{Item}
use Rattle.trace_stream.specs.declared.stages.Stage.{Stage}
use Rattle.trace_stream.specs.Items.{advance, cells_at}
use Rattle.trace_stream.specs.Runs.{Follow, IsTraceIn, IsTraceOf, bytes_from, item_bytes, items_bytes, name_item, trace_items_in}
use Rattle.trace_stream.proofs.Pauses.{record_long}
use Rattle.trace_stream.proofs.TraceItems.{traces_are_read}
use Rattle.trace_migration.specs.Items.{event_part, events_in, name_part, names_in, opening_part, openings_in, setup_part, setups_in}

-- ---- one item more

-- the parts of one item more
more_parts : {X : Type 0} (part : Item → List X) (items : List Item) (item : Item) → flat_map part (items ++ item ∷ []) ≡ flat_map part items ++ part item
more_parts part items item = flat_map-append part items (item ∷ []) ∙ ap (λ (l : List _). flat_map part items ++ l) (append-nil (part item))

pub setups_more : (items : List Item) (item : Item) → setups_in (items ++ item ∷ []) ≡ setups_in items ++ setup_part item
setups_more items item = more_parts setup_part items item

pub names_more : (items : List Item) (item : Item) → names_in (items ++ item ∷ []) ≡ names_in items ++ name_part item
names_more items item = more_parts name_part items item

pub openings_more : (items : List Item) (item : Item) → openings_in (items ++ item ∷ []) ≡ openings_in items ++ opening_part item
openings_more items item = more_parts opening_part items item

pub events_more : (items : List Item) (item : Item) → events_in (items ++ item ∷ []) ≡ events_in items ++ event_part item
events_more items item = more_parts event_part items item

pub events_append : (items others : List Item) → events_in (items ++ others) ≡ events_in items ++ events_in others
events_append items others = flat_map-append event_part items others

-- ---- there are no more parts than bytes

pub one_event_at_most : (item : Item) → length (event_part item) ≤ 1
one_event_at_most (Item.Header version setup) = omega arith
one_event_at_most (Item.Name stream name) = omega arith
one_event_at_most (Item.Opened line bytes) = omega arith
one_event_at_most (Item.Event e) = omega arith
one_event_at_most (Item.End count) = omega arith
one_event_at_most Item.More = omega arith

one_name_at_most : (item : Item) → length (name_part item) ≤ 1
one_name_at_most (Item.Header version setup) = omega arith
one_name_at_most (Item.Name stream name) = omega arith
one_name_at_most (Item.Opened line bytes) = omega arith
one_name_at_most (Item.Event e) = omega arith
one_name_at_most (Item.End count) = omega arith
one_name_at_most Item.More = omega arith

one_opening_at_most : (item : Item) → length (opening_part item) ≤ 1
one_opening_at_most (Item.Header version setup) = omega arith
one_opening_at_most (Item.Name stream name) = omega arith
one_opening_at_most (Item.Opened line bytes) = omega arith
one_opening_at_most (Item.Event e) = omega arith
one_opening_at_most (Item.End count) = omega arith
one_opening_at_most Item.More = omega arith

few_parts : {X : Type 0} (part : Item → List X) → ((item : Item) → length (part item) ≤ 1) → (stage : Stage) (items : List Item) → Follow stage items → length (flat_map part items) ≤ length (bytes_from stage items)
few_parts part one stage [] follow = omega arith
few_parts part one stage (item ∷ items) follow =
    let here = one item in
    let size = (record_long stage item follow.0).0 in
    let cells = length-map (cells_at stage item) (λ (c : Cell). c.byte) in
    let parts = length-append (part item) (flat_map part items) in
    let bytes = length-append (item_bytes stage item) (bytes_from (advance stage item) items) in
    let others = few_parts part one (advance stage item) items follow.2 in
    omega (arith, here, size, cells, parts, bytes, others)

pub few_events : (items : List Item) → Follow Stage.Start items → length (events_in items) ≤ length (items_bytes items)
few_events items follow = few_parts event_part one_event_at_most Stage.Start items follow

-- ---- the parts of a trace

abbrev opened_items : List (Line × Bytes64) → List Item
opened_items opening = map (λ pair. Item.Opened pair.0 pair.1) opening

setups_names : (names : List (ℕ × List ℕ)) (rest : List Item) → setups_in (map name_item names ++ rest) ≡ setups_in rest
setups_names [] rest = refl
setups_names (n ∷ names) rest = setups_names names rest

setups_opened : (opening : List (Line × Bytes64)) (rest : List Item) → setups_in (opened_items opening ++ rest) ≡ setups_in rest
setups_opened [] rest = refl
setups_opened (p ∷ opening) rest = setups_opened opening rest

setups_events : (events : List Event) (n : ℕ) → setups_in (map Item.Event events ++ Item.End n ∷ []) ≡ []
setups_events [] n = refl
setups_events (e ∷ events) n = setups_events events n

names_names : (names : List (ℕ × List ℕ)) (rest : List Item) → names_in (map name_item names ++ rest) ≡ names ++ names_in rest
names_names [] rest = refl
names_names (n ∷ names) rest = ap (λ (l : List (ℕ × List ℕ)). n ∷ l) (names_names names rest)

names_opened : (opening : List (Line × Bytes64)) (rest : List Item) → names_in (opened_items opening ++ rest) ≡ names_in rest
names_opened [] rest = refl
names_opened (p ∷ opening) rest = names_opened opening rest

names_events : (events : List Event) (n : ℕ) → names_in (map Item.Event events ++ Item.End n ∷ []) ≡ []
names_events [] n = refl
names_events (e ∷ events) n = names_events events n

openings_names : (names : List (ℕ × List ℕ)) (rest : List Item) → openings_in (map name_item names ++ rest) ≡ openings_in rest
openings_names [] rest = refl
openings_names (n ∷ names) rest = openings_names names rest

openings_opened : (opening : List (Line × Bytes64)) (rest : List Item) → openings_in (opened_items opening ++ rest) ≡ opening ++ openings_in rest
openings_opened [] rest = refl
openings_opened (p ∷ opening) rest = ap (λ (l : List (Line × Bytes64)). p ∷ l) (openings_opened opening rest)

openings_events : (events : List Event) (n : ℕ) → openings_in (map Item.Event events ++ Item.End n ∷ []) ≡ []
openings_events [] n = refl
openings_events (e ∷ events) n = openings_events events n

events_names : (names : List (ℕ × List ℕ)) (rest : List Item) → events_in (map name_item names ++ rest) ≡ events_in rest
events_names [] rest = refl
events_names (n ∷ names) rest = events_names names rest

events_opened : (opening : List (Line × Bytes64)) (rest : List Item) → events_in (opened_items opening ++ rest) ≡ events_in rest
events_opened [] rest = refl
events_opened (p ∷ opening) rest = events_opened opening rest

events_events : (events : List Event) (n : ℕ) → events_in (map Item.Event events ++ Item.End n ∷ []) ≡ events
events_events [] n = refl
events_events (e ∷ events) n = ap (λ (l : List Event). e ∷ l) (events_events events n)

-- these items have these parts
pub record HasParts (items : List Item) (setup : Configuration) (names : List (ℕ × List ℕ)) (opening : List (Line × Bytes64)) (events : List Event) : Type 0 where
  pub header : setups_in items ≡ setup ∷ []
  pub named : names_in items ≡ names
  pub opened : openings_in items ≡ opening
  pub happened : events_in items ≡ events

pub trace_parts : (version : Version) (setup : Configuration) (names : List (ℕ × List ℕ)) (opening : List (Line × Bytes64)) (events : List Event)
    → HasParts (trace_items_in version setup names opening events) setup names opening events
trace_parts version setup names opening events =
    let last : List Item = map Item.Event events ++ Item.End (length events) ∷ [] in
    let middle : List Item = opened_items opening ++ last in
    record {
      header = ap (λ (l : List Configuration). setup ∷ l) (setups_names names middle ∙ setups_opened opening last ∙ setups_events events (length events));
      named = names_names names middle ∙ ap (λ (l : List (ℕ × List ℕ)). names ++ l) (names_opened opening last ∙ names_events events (length events)) ∙ append-nil names;
      opened = openings_names names middle ∙ openings_opened opening last ∙ ap (λ (l : List (Line × Bytes64)). opening ++ l) (openings_events events (length events)) ∙ append-nil opening;
      happened = events_names names middle ∙ events_opened opening last ∙ events_events events (length events);
    }

pub parts_of : (bytes : List ℕ) (items : List Item) (count : ℕ) → (t : IsTraceOf bytes items count) → HasParts items t.setup t.names t.opening t.events
parts_of bytes items count t = subst (λ (l : List Item). HasParts l t.setup t.names t.opening t.events) (sym t.same) (trace_parts t.version t.setup t.names t.opening t.events)

-- a trace has no more names, and no more openings, than bytes
pub record AreFew (bytes : List ℕ) (names : List (ℕ × List ℕ)) (opening : List (Line × Bytes64)) : Type 0 where
  pub named : length names ≤ length bytes
  pub opened : length opening ≤ length bytes

pub few_in_trace : (bytes : List ℕ) (version : Version) (setup : Configuration) (names : List (ℕ × List ℕ)) (opening : List (Line × Bytes64)) (events : List Event) → IsTraceIn bytes version setup names opening events
    → AreFew bytes names opening
few_in_trace bytes version setup names opening events trace =
    let items = trace_items_in version setup names opening events in
    let read = (traces_are_read bytes version setup names opening events trace).read in
    let parts = trace_parts version setup names opening events in
    let size = ap (length {A = ℕ}) (read.spelled ∙ append-nil (items_bytes items)) in
    let named = few_parts name_part one_name_at_most Stage.Start items read.follow in
    let opened = few_parts opening_part one_opening_at_most Stage.Start items read.follow in
    let names_size = ap (length {A = ℕ × List ℕ}) parts.named in
    let opening_size = ap (length {A = Line × Bytes64}) parts.opened in
    record { named = omega (arith, size, named, names_size); opened = omega (arith, size, opened, opening_size) }
