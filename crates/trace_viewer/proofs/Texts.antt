-- The text of a trace's items.
use Rattle.std.proofs.Common.{◌≡◌, ◌+◌, ℕ, List, [], ◌∷◌, ◌++◌, length, map, refl, sym, ap, ◌∙◌, append_assoc}
use Rattle.std.specs.List.{flat_map}
use Rattle.cxl_message.specs.Setup.{Configuration}
use Rattle.cxl_message.specs.declared.events.Event.{Event}
use Rattle.cxl_message.specs.declared.identifiers.Bytes64.{Bytes64}
use Rattle.cxl_message.specs.declared.identifiers.Line.{Line}
use Rattle.cxl_codec.specs.declared.versions.Version.{Version}
use Rattle.cxl_view.specs.Events.{event_line, event_lines}
use Rattle.cxl_view.specs.Tallies.{counts_of, tally_lines}
use Rattle.cxl_view.specs.Traces.{front_bytes, header_lines, name_line, opening_line}
use Rattle.trace_stream.specs.declared.items.Item.{Item}
use Rattle.trace_stream.specs.Runs.{IsTraceOf, name_item, trace_items_in}
use Rattle.trace_viewer.specs.Items.{counts_in, events_in, shown_from, shown_items}
use Rattle.trace_viewer.specs.Laws.{ItemsAreShown}
use Rattle.trace_viewer.specs.Viewing.{IsShown}

abbrev opened_items : List (Line × Bytes64) → List Item
opened_items openings = map (λ pair. Item.Opened pair.0 pair.1) openings

-- ---- its lines

shown_names : (number : ℕ) (names : List (ℕ × List ℕ)) (rest : List Item) → shown_from number (map name_item names ++ rest) ≡ flat_map name_line names ++ shown_from number rest
shown_names number [] rest = refl
shown_names number (n ∷ names) rest =
    ap (λ (l : List ℕ). name_line n ++ l) (shown_names number names rest) ∙ sym (append_assoc (name_line n) (flat_map name_line names) (shown_from number rest))

shown_opened : (number : ℕ) (openings : List (Line × Bytes64)) (rest : List Item) → shown_from number (opened_items openings ++ rest) ≡ flat_map opening_line openings ++ shown_from number rest
shown_opened number [] rest = refl
shown_opened number (p ∷ openings) rest =
    ap (λ (l : List ℕ). opening_line p ++ l) (shown_opened number openings rest) ∙ sym (append_assoc (opening_line p) (flat_map opening_line openings) (shown_from number rest))

shown_events : (number count : ℕ) (events : List Event) → shown_from number (map Item.Event events ++ Item.End count ∷ []) ≡ event_lines number events
shown_events number count [] = refl
shown_events number count (e ∷ events) = ap (λ (l : List ℕ). event_line number e ++ l) (shown_events (number + 1) count events)

pub items_shown : ItemsAreShown
items_shown version setup names openings events =
    let last : List Item = map Item.Event events ++ Item.End (length events) ∷ [] in
    let h : List ℕ = header_lines version setup in
    let ns : List ℕ = flat_map name_line names in
    let os : List ℕ = flat_map opening_line openings in
    let es : List ℕ = event_lines 0 events in
    let all : shown_from 0 (map name_item names ++ (opened_items openings ++ last)) ≡ ns ++ (os ++ es) =
    shown_names 0 names (opened_items openings ++ last) ∙ ap (λ (l : List ℕ). ns ++ l) (shown_opened 0 openings last ∙ ap (λ (l : List ℕ). os ++ l) (shown_events 0 (length events) events)) in
    ap (λ (l : List ℕ). h ++ l) all ∙ sym (append_assoc h ns (os ++ es)) ∙ sym (append_assoc (h ++ ns) os es)

-- ---- what is counted of it

events_names : (names : List (ℕ × List ℕ)) (rest : List Item) → events_in (map name_item names ++ rest) ≡ events_in rest
events_names [] rest = refl
events_names (n ∷ names) rest = events_names names rest

events_opened : (openings : List (Line × Bytes64)) (rest : List Item) → events_in (opened_items openings ++ rest) ≡ events_in rest
events_opened [] rest = refl
events_opened (p ∷ openings) rest = events_opened openings rest

events_events : (events : List Event) (n : ℕ) → events_in (map Item.Event events ++ Item.End n ∷ []) ≡ events
events_events [] n = refl
events_events (e ∷ events) n = ap (λ (l : List Event). e ∷ l) (events_events events n)

trace_counted : (version : Version) (setup : Configuration) (names : List (ℕ × List ℕ)) (openings : List (Line × Bytes64)) (events : List Event) → counts_in (trace_items_in version setup names openings events) ≡ counts_of setup.lines events
trace_counted version setup names openings events =
    let last : List Item = map Item.Event events ++ Item.End (length events) ∷ [] in
    ap (λ (l : List Event). counts_of setup.lines l) (events_names names (opened_items openings ++ last) ∙ events_opened openings last ∙ events_events events (length events))

-- the text of a trace's items and what is counted of them are all of its text
pub shown_whole : (bytes : List ℕ) (items : List Item) (count : ℕ) → IsTraceOf bytes items count → IsShown bytes (shown_items items ++ tally_lines (counts_in items))
shown_whole bytes items count t =
    record {
      version = t.version;
      setup = t.setup;
      names = t.names;
      openings = t.opening;
      events = t.events;
      trace = t.trace;
      shown =
          ap (λ (l : List Item). shown_items l ++ tally_lines (counts_in l)) t.same
          ∙ ap (λ (l : List ℕ). l ++ tally_lines (counts_in (trace_items_in t.version t.setup t.names t.opening t.events))) (items_shown t.version t.setup t.names t.opening t.events)
          ∙ ap (λ c. front_bytes t.version t.setup t.names t.opening t.events ++ tally_lines c) (trace_counted t.version t.setup t.names t.opening t.events);
    }
