-- How far the loop is that puts the events of a trace.
use Rattle.std.proofs.Common.{◌≡◌, ℕ, ◌+◌, ◌*◌, ◌≤◌, List, [], ◌∷◌, ◌++◌, length, true, Option, IsTrue, Result, Ok, Err, refl, sym, ap, subst, ◌∙◌, append_assoc, append-nil, length-append, arith}
use Rattle.std.specs.List.{flat_map, list_all}
use Rattle.std.specs.Prelude.{OnErr}
use Rattle.std.proofs.lemmas.Bool.{and_from}
use Rattle.std.proofs.lemmas.List.{length-map}
use Rattle.cxl_message.specs.Formed.{well_formed}
use Rattle.cxl_message.specs.Setup.{Configuration}
use Rattle.cxl_message.specs.declared.events.Event.{Event}
use Rattle.cxl_message.specs.declared.identifiers.Bytes64.{Bytes64}
use Rattle.cxl_message.specs.declared.identifiers.Line.{Line}
use Rattle.cxl_codec.specs.Cells.{Cell}
use Rattle.cxl_codec.specs.Traces.{end_bytes, event_bytes_in, trace_bytes_in}
use Rattle.cxl_codec.specs.declared.versions.Version.{Version}
use Rattle.cxl_codec.proofs.TraceReads.{determined}
use Rattle.trace_stream.specs.declared.items.Item.{Item}
use Rattle.trace_stream.specs.declared.stages.Stage.{Stage}
use Rattle.trace_stream.specs.Buffers.{PutsFront, reach}
use Rattle.trace_stream.specs.Items.{Allows, advance, cells_at}
use Rattle.trace_stream.specs.Runs.{Follow, IsTraceOf, bytes_from, item_bytes, items_bytes, stage_after}
use Rattle.trace_stream.specs.Writing.{BreaksOff, GoesOn, HasBegunIn, WritesFront, Writing, front_bytes_in}
use Rattle.trace_stream.proofs.Beginnings.{trace_after}
use Rattle.trace_stream.proofs.Pauses.{record_long}
use Rattle.trace_stream.proofs.Putting.{front_of_more}
use Rattle.trace_migration.specs.Items.{event_part, events_in}
use Rattle.trace_migration.specs.Migrations.{PutsEvents, PutsEventsShort}
use Rattle.trace_migration.specs.Walks.{IsAt, Walking}
use Rattle.trace_migration.proofs.Fronts.{later_events}
use Rattle.trace_migration.proofs.Parts.{events_more, few_events, parts_of}

-- ---- the events that were put

-- the loop after some items: `old` is the writer before it
pub record LoopAt (bytes : List ℕ) (walking : Walking) (old now : Writing) : Type 0 where
  pub items : List Item
  pub at : IsAt bytes items walking
  pub put : GoesOn old now (events_in items)
  pub counted : now.count ≡ length (events_in items)
  pub rises : reach now.out ≤ reach old.out + 800 * length items

-- nothing was put
pub goes_nowhere : (old : Writing) → GoesOn old old []
goes_nowhere old start version setup names opening events begun = subst (λ (l : List Event). HasBegunIn start old version setup names opening l) (sym (append-nil events)) begun

pub loop_starts : (bytes : List ℕ) (walking : Walking) (old : Writing) → IsAt bytes [] walking → old.count ≡ 0 → LoopAt bytes walking old old
loop_starts bytes walking old at none = record { items = []; at = at; put = goes_nowhere old; counted = none; rises = omega arith }

-- events, and others behind them
goes_further : (old mid now : Writing) (xs ys : List Event) → GoesOn old mid xs → GoesOn mid now ys → GoesOn old now (xs ++ ys)
goes_further old mid now xs ys first second start version setup names opening events begun =
    subst (λ (l : List Event). HasBegunIn start now version setup names opening l) (append_assoc events xs ys)
    (second start version setup names opening (events ++ xs) (first start version setup names opening events begun))

pub loop_goes_on : (bytes : List ℕ) (walking next : Walking) (old mid now : Writing) (item : Item) → (l : LoopAt bytes walking old mid) → IsAt bytes (l.items ++ item ∷ []) next → GoesOn mid now (event_part item)
    → now.count ≡ mid.count + length (event_part item) → reach now.out ≤ reach mid.out + 800 → LoopAt bytes next old now
loop_goes_on bytes walking next old mid now item l at goes more rises =
    let size = length-append (events_in l.items) (event_part item) in
    let was = l.counted in
    let events = ap (length {A = Event}) (events_more l.items item) in
    let cost = l.rises in
    let longer = length-append l.items (item ∷ []) in
    record {
      items = l.items ++ item ∷ [];
      at = at;
      put = subst (λ (es : List Event). GoesOn old now es) (sym (events_more l.items item)) (goes_further old mid now (events_in l.items) (event_part item) l.put goes);
      counted = omega (arith, size, was, events, more);
      rises = omega (arith, cost, rises, longer);
    }

-- what a put that failed leaves
pub loop_cut : (bytes : List ℕ) (walking next : Walking) (old mid now : Writing) (item : Item) → (l : LoopAt bytes walking old mid) → IsAt bytes (l.items ++ item ∷ []) next → BreaksOff mid now (event_part item) → PutsEventsShort bytes old now
loop_cut bytes walking next old mid now item l at breaks version setup names opening events trace start begun =
    let items = l.items ++ item ∷ [] in
    let on = later_events bytes items next version setup names opening events trace at in
    let whole : (events_in l.items ++ event_part item) ++ on.later ≡ events = ap (λ (es : List Event). es ++ on.later) (sym (events_more l.items item)) ∙ sym on.is in
    subst (λ (es : List Event). WritesFront start now.out.gone (trace_bytes_in Version.Two setup names opening es)) whole
    (breaks start Version.Two setup names opening (events_in l.items) (l.put start Version.Two setup names opening [] begun) on.later)

-- all is put
pub loop_done : (bytes : List ℕ) (items : List Item) (count : ℕ) (old now : Writing) → GoesOn old now (events_in items) → IsTraceOf bytes items count → PutsEvents bytes old now
loop_done bytes items count old now put t version setup names opening events trace =
    let parts = parts_of bytes items count t in
    let same = determined t.version version t.setup setup t.names names t.opening opening t.events events t.trace.fits trace.fits (sym t.trace.spelled ∙ trace.spelled) in
    subst (λ (es : List Event). GoesOn old now es) (parts.happened ∙ same.4) put

-- ---- numbers

few_items : (stage : Stage) (items : List Item) → Follow stage items → length items ≤ length (bytes_from stage items)
few_items stage [] follow = omega arith
few_items stage (item ∷ items) follow =
    let size = (record_long stage item follow.0).0 in
    let cells = length-map (cells_at stage item) (λ (c : Cell). c.byte) in
    let bytes = length-append (item_bytes stage item) (bytes_from (advance stage item) items) in
    let others = few_items (advance stage item) items follow.2 in
    omega (arith, size, cells, bytes, others)

pub record AreFewItems (bytes : List ℕ) (items : List Item) : Type 0 where
  pub all : length items ≤ length bytes
  pub events : length (events_in items) ≤ length bytes

pub few_at : (bytes : List ℕ) (items : List Item) (walking : Walking) → IsAt bytes items walking → AreFewItems bytes items
few_at bytes items walking at =
    let all = ap (length {A = ℕ}) at.split in
    let parts = length-append at.read walking.rest in
    let read = ap (length {A = ℕ}) at.has.read.spelled in
    let waits = length-append (items_bytes items) walking.reading.waiting in
    let few = few_items Stage.Start items at.has.read.follow in
    let events = few_events items at.has.read.follow in
    record { all = omega (arith, all, parts, read, waits, few); events = omega (arith, all, parts, read, waits, events) }

-- ---- an event is well formed

one_formed : (e : Event) → IsTrue (well_formed e) → list_all well_formed (e ∷ []) ≡ true
one_formed e formed = and_from (well_formed e) true formed refl

formed_here : (stage : Stage) (item : Item) → Allows stage item → list_all well_formed (event_part item) ≡ true
formed_here stage (Item.Header version setup) allowed = refl
formed_here stage (Item.Name stream name) allowed = refl
formed_here stage (Item.Opened line bytes) allowed = refl
formed_here Stage.Start (Item.Event e) allowed = absurd allowed
formed_here (Stage.Names streams lines next) (Item.Event e) allowed = one_formed e allowed.formed
formed_here (Stage.Openings version lines next) (Item.Event e) allowed = one_formed e allowed.formed
formed_here (Stage.Events version count) (Item.Event e) allowed = one_formed e allowed.formed
formed_here (Stage.Ended count) (Item.Event e) allowed = absurd allowed
formed_here stage (Item.End count) allowed = refl
formed_here stage Item.More allowed = refl

last_allowed : (stage : Stage) (items : List Item) (item : Item) → Follow stage (items ++ item ∷ []) → Allows (stage_after stage items) item
last_allowed stage [] item follow = follow.0
last_allowed stage (first ∷ items) item follow = last_allowed (advance stage first) items item follow.2

pub last_formed : (bytes : List ℕ) (items : List Item) (item : Item) (walking : Walking) → IsAt bytes (items ++ item ∷ []) walking → IsTrue (list_all well_formed (event_part item))
last_formed bytes items item walking at = formed_here (stage_after Stage.Start items) item (last_allowed Stage.Start items item at.has.read.follow)

-- what holds in any case holds of a refusal
pub on_refusal : {T E P : Type 0} (r : Result T E) → P → OnErr r P
on_refusal (Ok x) p = tt
on_refusal (Err e) p = p

-- ---- a writer that breaks off between two events

-- what has gone since the header is a front of the trace
pub begun_front : (start : Option (List ℕ)) (w : Writing) (version : Version) (setup : Configuration) (names : List (ℕ × List ℕ)) (opening : List (Line × Bytes64)) (events : List Event) → HasBegunIn start w version setup names opening []
    → WritesFront start w.out.gone (trace_bytes_in version setup names opening events)
begun_front start w version setup names opening events begun =
    let front : PutsFront start w.out.gone [] (front_bytes_in version setup names opening []) = record { gone = begun.puts.gone; lost = w.out.waiting; went = begun.puts.went; whole = begun.puts.whole } in
    subst (λ (bytes : List ℕ). PutsFront start w.out.gone [] bytes) (sym (trace_after version setup names opening [] events))
    (front_of_more start w.out.gone [] (front_bytes_in version setup names opening []) (flat_map (event_bytes_in version) events ++ end_bytes (length events)) front)

pub nothing_put : (bytes : List ℕ) (w : Writing) → PutsEventsShort bytes w w
nothing_put bytes w version setup names opening events trace start begun = begun_front start w Version.Two setup names opening events begun
