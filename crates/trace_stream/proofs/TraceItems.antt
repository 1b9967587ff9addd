-- A trace is read as its items.
use Rattle.std.proofs.Common.{◌≡◌, ℕ, ◌+◌, Bool, true, false, cond, List, [], ◌∷◌, ◌++◌, length, map, Some, None, IsTrue, refl, sym, ap, subst, ◌∙◌, append_assoc, append-nil, add-zero, arith, nat_lt, nat_le, eqb}
use Rattle.std.specs.Prelude.{◌&&◌, not}
use Rattle.std.specs.List.{flat_map, list_all, AllByRecursion}
use Rattle.std.proofs.lemmas.Bool.{and_parts, and_from, eq-eqb}
use Rattle.cxl_message.specs.Setup.{Configuration}
use Rattle.cxl_message.specs.Codes.{bytes_eq}
use Rattle.cxl_message.specs.Opening.{IsOpening, ascends_from, opening_fits, zero_bytes}
use Rattle.cxl_message.specs.Names.{names_ascend_from, names_fit}
use Rattle.cxl_codec.specs.declared.versions.Version.{Version}
use Rattle.cxl_codec.specs.NameRecord.{NameFits}
use Rattle.cxl_message.specs.declared.identifiers.Line.{Line}
use Rattle.cxl_message.specs.declared.identifiers.Bytes64.{Bytes64}
use Rattle.cxl_message.specs.declared.events.Event.{Event}
use Rattle.cxl_codec.specs.Openings.{OpeningFits}
use Rattle.cxl_codec.specs.Events.{EventFitsIn}
use Rattle.cxl_codec.specs.EndRecord.{EndFits}
use Rattle.cxl_codec.specs.Traces.{TraceFitsIn, end_bytes, event_bytes_in, header_bytes_in, name_bytes, opening_bytes, trace_bytes_in}
use Rattle.trace_stream.specs.declared.items.Item.{Item}
use Rattle.trace_stream.specs.declared.items.Reason.{Reason}
use Rattle.trace_stream.specs.declared.stages.Stage.{Stage}
use Rattle.trace_stream.specs.Items.{Allows, IsLater, after_header, event_count, lines_of, may_open, opens_well, version_of}
use Rattle.trace_stream.specs.Runs.{Follow, NamesFit, bytes_from, items_bytes, name_item, stage_after, trace_items_in}
use Rattle.trace_stream.proofs.KindsLifted.{later_next, next_named}
use Rattle.trace_stream.specs.Laws.{TracesAreRead}

-- items from a stage on that spell some bytes and end behind so many events
record Leads (stage : Stage) (items : List Item) (bytes : List ℕ) (count : ℕ) : Type 0 where
  spelled : bytes_from stage items ≡ bytes
  follow : Follow stage items
  ended : stage_after stage items ≡ Stage.Ended count

-- the events and the end record, as items
abbrev ending_items : List Event → ℕ → List Item
ending_items events count = map Item.Event events ++ Item.End count ∷ []

-- a test that finds nothing wrong
passes : (b : Bool) (reason : Reason) → b ≡ true → cond b None (Some reason) ≡ None
passes true reason e = refl
passes false reason e = absurd cc

-- an end record with the right number
end_leads : (stage : Stage) (count : ℕ) → event_count stage ≡ count → ((n : ℕ) → EndFits n → Allows stage (Item.End n)) → EndFits count → Leads stage (Item.End count ∷ []) (end_bytes count) count
end_leads stage count number allowed fits = record {
  spelled = append-nil (end_bytes count);
  follow = (allowed count fits, passes (eqb count (event_count stage)) Reason.Count (eq-eqb count (event_count stage) (sym number)), tt);
  ended = refl;
}

module _ (version : Version) where
  -- the bytes of events and the end record
  abbrev ending_bytes : List Event → ℕ → List ℕ
  ending_bytes events count = flat_map (event_bytes_in version) events ++ end_bytes count

  -- an event, and what follows it
  event_leads : (stage : Stage) (e : Event) (items : List Item) (bytes : List ℕ) (count : ℕ) → version_of stage ≡ version → Allows stage (Item.Event e) → Leads (Stage.Events version (event_count stage + 1)) items bytes count
      → Leads stage (Item.Event e ∷ items) (event_bytes_in version e ++ bytes) count
  event_leads stage e items bytes count same allowed rest =
      let after : Stage.Events (version_of stage) (event_count stage + 1) ≡ Stage.Events version (event_count stage + 1) = ap (λ (v : Version). Stage.Events v (event_count stage + 1)) same in
      let own : Leads (Stage.Events (version_of stage) (event_count stage + 1)) items bytes count = subst (λ (s : Stage). Leads s items bytes count) (sym after) rest in
      record {
        spelled = ap (λ (l : List ℕ). event_bytes_in (version_of stage) e ++ l) own.spelled ∙ ap (λ (v : Version). event_bytes_in v e ++ bytes) same;
        follow = (allowed, refl, own.follow);
        ended = own.ended;
      }

  -- events after others
  events_lead : (events : List Event) (read count : ℕ) → read + length events ≡ count → AllByRecursion (EventFitsIn version) events → EndFits count
      → Leads (Stage.Events version read) (ending_items events count) (ending_bytes events count) count
  events_lead [] read count number each fits = end_leads (Stage.Events version read) count (sym (add-zero read) ∙ number) (λ n f. f) fits
  events_lead (e ∷ events) read count number each fits =
      let rest : Leads (Stage.Events version (read + 1)) (ending_items events count) (ending_bytes events count) count = events_lead events (read + 1) count (omega (arith, number)) each.1 fits in
      let one = event_leads (Stage.Events version read) e (ending_items events count) (ending_bytes events count) count refl each.0 rest in
      subst (λ (l : List ℕ). Leads (Stage.Events version read) (Item.Event e ∷ ending_items events count) l count) (sym (append_assoc (event_bytes_in version e) (flat_map (event_bytes_in version) events) (end_bytes count))) one

  -- the first events, from a stage before them
  first_events_lead : (stage : Stage) (events : List Event) (count : ℕ) → version_of stage ≡ version → event_count stage ≡ 0 → ((item : Item) → IsLater version item → Allows stage item) → length events ≡ count
      → AllByRecursion (EventFitsIn version) events → EndFits count → Leads stage (ending_items events count) (ending_bytes events count) count
  first_events_lead stage [] count same none allows number each fits = end_leads stage count (none ∙ number) (λ n f. allows (Item.End n) f) fits
  first_events_lead stage (e ∷ events) count same none allows number each fits =
      let rest : Leads (Stage.Events version 1) (ending_items events count) (ending_bytes events count) count = events_lead events 1 count (omega (arith, number)) each.1 fits in
      let counted : Leads (Stage.Events version (event_count stage + 1)) (ending_items events count) (ending_bytes events count) count =
      subst (λ (n : ℕ). Leads (Stage.Events version (n + 1)) (ending_items events count) (ending_bytes events count) count) (sym none) rest in
      let one = event_leads stage e (ending_items events count) (ending_bytes events count) count same (allows (Item.Event e) each.0) counted in
      subst (λ (l : List ℕ). Leads stage (Item.Event e ∷ ending_items events count) l count) (sym (append_assoc (event_bytes_in version e) (flat_map (event_bytes_in version) events) (end_bytes count))) one

  -- the openings, as items
  abbrev opening_items : List (Line × Bytes64) → List Item
  opening_items opening = map (λ pair. Item.Opened pair.0 pair.1) opening

  -- an opening that may come, and what follows it
  opening_leads : (stage : Stage) (lines next : ℕ) (p : Line × Bytes64) (opening : List (Line × Bytes64)) (items : List Item) (bytes : List ℕ) (count : ℕ) → version_of stage ≡ version → lines_of stage ≡ lines
      → (may_open stage p.0.0 p.1 ≡ opens_well lines next p.0.0 p.1) → Allows stage (Item.Opened p.0 p.1) → IsTrue (ascends_from next (p ∷ opening)) → IsTrue (list_all (λ p. not (bytes_eq p.1 zero_bytes)) (p ∷ opening))
      → IsTrue (opening_fits lines (p ∷ opening)) → Leads (Stage.Openings version lines (p.0.0 + 1)) (opening_items opening ++ items) (flat_map opening_bytes opening ++ bytes) count
      → Leads stage (opening_items (p ∷ opening) ++ items) (flat_map opening_bytes (p ∷ opening) ++ bytes) count
  opening_leads stage lines next p opening items bytes count same all test allowed ascending not_zero below others =
      let places = and_parts (nat_le next p.0.0) (ascends_from (p.0.0 + 1) opening) ascending in
      let some = and_parts (not (bytes_eq p.1 zero_bytes)) (list_all (λ p. not (bytes_eq p.1 zero_bytes)) opening) not_zero in
      let lower = and_parts (nat_lt p.0.0 lines) (opening_fits lines opening) below in
      let well : IsTrue (opens_well lines next p.0.0 p.1) = and_from (nat_le next p.0.0 && nat_lt p.0.0 lines) (not (bytes_eq p.1 zero_bytes)) (and_from (nat_le next p.0.0) (nat_lt p.0.0 lines) places.0 lower.0) some.0 in
      let after : Stage.Openings version lines (p.0.0 + 1) ≡ Stage.Openings (version_of stage) (lines_of stage) (p.0.0 + 1) =
      ap (λ (v : Version). Stage.Openings v lines (p.0.0 + 1)) (sym same) ∙ ap (λ (n : ℕ). Stage.Openings (version_of stage) n (p.0.0 + 1)) (sym all) in
      let own : Leads (Stage.Openings (version_of stage) (lines_of stage) (p.0.0 + 1)) (opening_items opening ++ items) (flat_map opening_bytes opening ++ bytes) count =
      subst (λ (s : Stage). Leads s (opening_items opening ++ items) (flat_map opening_bytes opening ++ bytes) count) after others in
      record {
        spelled = ap (λ (l : List ℕ). opening_bytes p ++ l) own.spelled ∙ sym (append_assoc (opening_bytes p) (flat_map opening_bytes opening) bytes);
        follow = (allowed, passes (may_open stage p.0.0 p.1) Reason.Opening (test ∙ well), own.follow);
        ended = own.ended;
      }

  -- openings, and what follows them
  openings_lead : (opening : List (Line × Bytes64)) (lines next : ℕ) (items : List Item) (bytes : List ℕ) (count : ℕ) → AllByRecursion OpeningFits opening → IsTrue (ascends_from next opening)
      → IsTrue (list_all (λ p. not (bytes_eq p.1 zero_bytes)) opening) → IsTrue (opening_fits lines opening) → ((last : ℕ) → Leads (Stage.Openings version lines last) items bytes count)
      → Leads (Stage.Openings version lines next) (opening_items opening ++ items) (flat_map opening_bytes opening ++ bytes) count
  openings_lead [] lines next items bytes count fits ascending not_zero below rest = rest next
  openings_lead (p ∷ opening) lines next items bytes count fits ascending not_zero below rest =
      let places = and_parts (nat_le next p.0.0) (ascends_from (p.0.0 + 1) opening) ascending in
      let some = and_parts (not (bytes_eq p.1 zero_bytes)) (list_all (λ p. not (bytes_eq p.1 zero_bytes)) opening) not_zero in
      let lower = and_parts (nat_lt p.0.0 lines) (opening_fits lines opening) below in
      opening_leads (Stage.Openings version lines next) lines next p opening items bytes count refl refl refl fits.0 ascending not_zero below
      (openings_lead opening lines (p.0.0 + 1) items bytes count fits.1 places.1 some.1 lower.1 rest)

-- openings after names
openings_behind : (opening : List (Line × Bytes64)) (streams lines next : ℕ) (items : List Item) (bytes : List ℕ) (count : ℕ) → AllByRecursion OpeningFits opening → IsTrue (ascends_from 0 opening)
    → IsTrue (list_all (λ p. not (bytes_eq p.1 zero_bytes)) opening) → IsTrue (opening_fits lines opening) → ((last : ℕ) → Leads (Stage.Openings Version.Two lines last) items bytes count)
    → Leads (Stage.Names streams lines next) items bytes count → Leads (Stage.Names streams lines next) (opening_items Version.Two opening ++ items) (flat_map opening_bytes opening ++ bytes) count
openings_behind [] streams lines next items bytes count fits ascending not_zero below rest none = none
openings_behind (p ∷ opening) streams lines next items bytes count fits ascending not_zero below rest none =
    let places = and_parts (nat_le 0 p.0.0) (ascends_from (p.0.0 + 1) opening) ascending in
    let some = and_parts (not (bytes_eq p.1 zero_bytes)) (list_all (λ p. not (bytes_eq p.1 zero_bytes)) opening) not_zero in
    let lower = and_parts (nat_lt p.0.0 lines) (opening_fits lines opening) below in
    opening_leads Version.Two (Stage.Names streams lines next) lines 0 p opening items bytes count refl refl refl fits.0 ascending not_zero below
    (openings_lead Version.Two opening lines (p.0.0 + 1) items bytes count fits.1 places.1 some.1 lower.1 rest)

-- names, and what follows them
names_lead : (names : List (ℕ × List ℕ)) (streams lines next : ℕ) (items : List Item) (bytes : List ℕ) (count : ℕ) → AllByRecursion NameFits names → IsTrue (names_ascend_from next names) → IsTrue (names_fit streams names)
    → ((last : ℕ) → Leads (Stage.Names streams lines last) items bytes count) → Leads (Stage.Names streams lines next) (map name_item names ++ items) (flat_map name_bytes names ++ bytes) count
names_lead [] streams lines next items bytes count fits ascending below rest = rest next
names_lead (n ∷ names) streams lines next items bytes count fits ascending below rest =
    let places = and_parts (nat_le next n.0) (names_ascend_from (n.0 + 1) names) ascending in
    let lower = and_parts (nat_lt n.0 streams) (names_fit streams names) below in
    let others : Leads (Stage.Names streams lines (n.0 + 1)) (map name_item names ++ items) (flat_map name_bytes names ++ bytes) count = names_lead names streams lines (n.0 + 1) items bytes count fits.1 places.1 lower.1 rest in
    let test : IsTrue (nat_le next n.0 && nat_lt n.0 streams) = and_from (nat_le next n.0) (nat_lt n.0 streams) places.0 lower.0 in
    record {
      spelled = ap (λ (l : List ℕ). name_bytes n ++ l) others.spelled ∙ sym (append_assoc (name_bytes n) (flat_map name_bytes names) bytes);
      follow = (fits.0, passes (nat_le next n.0 && nat_lt n.0 streams) Reason.Name test, others.follow);
      ended = others.ended;
    }

-- what follows the header of a trace, and its bytes
abbrev behind_items : List (ℕ × List ℕ) → List (Line × Bytes64) → List Event → List Item
behind_items names opening events = map name_item names ++ (map (λ pair. Item.Opened pair.0 pair.1) opening ++ ending_items events (length events))

abbrev behind_bytes : Version → List (ℕ × List ℕ) → List (Line × Bytes64) → List Event → List ℕ
behind_bytes version names opening events = flat_map name_bytes names ++ (flat_map opening_bytes opening ++ (flat_map (event_bytes_in version) events ++ end_bytes (length events)))

-- what follows the header leads to the end
header_leads : (version : Version) (setup : Configuration) (names : List (ℕ × List ℕ)) (opening : List (Line × Bytes64)) (events : List Event) → TraceFitsIn version setup names opening events → NamesFit version (length setup.streams) names
    → IsOpening opening → IsTrue (opening_fits setup.lines opening) → Leads (after_header version setup) (behind_items names opening events) (behind_bytes version names opening events) (length events)
header_leads Version.One setup names opening events fits none ascending lines =
    let count = length events in
    let bare : Leads (Stage.Openings Version.One setup.lines 0) (behind_items [] opening events) (behind_bytes Version.One [] opening events) count =
    openings_lead Version.One opening setup.lines 0 (ending_items events count) (ending_bytes Version.One events count) count fits.each_opening ascending.ascending ascending.not_zero lines
    (λ last. first_events_lead Version.One (Stage.Openings Version.One setup.lines last) events count refl refl (later_next Version.One) refl fits.each_event fits.count) in
    subst (λ (ns : List (ℕ × List ℕ)). Leads (Stage.Openings Version.One setup.lines 0) (behind_items ns opening events) (behind_bytes Version.One ns opening events) count) (sym none) bare
header_leads Version.Two setup names opening events fits named ascending lines =
    let count = length events in
    let streams = length setup.streams in
    names_lead names streams setup.lines 0 (opening_items Version.Two opening ++ ending_items events count) (flat_map opening_bytes opening ++ ending_bytes Version.Two events count) count fits.each_name named.0 named.1
    (λ next.
    openings_behind opening streams setup.lines next (ending_items events count) (ending_bytes Version.Two events count) count fits.each_opening ascending.ascending ascending.not_zero lines
    (λ last. first_events_lead Version.Two (Stage.Openings Version.Two setup.lines last) events count refl refl (later_next Version.Two) refl fits.each_event fits.count)
    (first_events_lead Version.Two (Stage.Names streams setup.lines next) events count refl refl (λ item later. next_named item (later_next Version.Two item later)) refl fits.each_event fits.count))

-- a trace in two other groups
pub grouped : (version : Version) (setup : Configuration) (names : List (ℕ × List ℕ)) (opening : List (Line × Bytes64)) (events : List Event)
    → trace_bytes_in version setup names opening events ≡ header_bytes_in version setup ++ behind_bytes version names opening events
grouped version setup names opening events =
    let head = header_bytes_in version setup in
    let named = flat_map name_bytes names in
    let middle = flat_map opening_bytes opening in
    let last = flat_map (event_bytes_in version) events in
    append_assoc (head ++ (named ++ middle)) last (end_bytes (length events)) ∙ append_assoc head (named ++ middle) (last ++ end_bytes (length events))
    ∙ ap (λ (l : List ℕ). head ++ l) (append_assoc named middle (last ++ end_bytes (length events)))

pub traces_are_read : TracesAreRead
traces_are_read bytes version setup names opening events trace =
    let rest = header_leads version setup names opening events trace.fits trace.named trace.ascending trace.lines in
    let items : List Item = trace_items_in version setup names opening events in
    let whole : bytes ≡ items_bytes items = trace.spelled ∙ grouped version setup names opening events ∙ ap (λ (l : List ℕ). header_bytes_in version setup ++ l) (sym rest.spelled) in
    record {
      read = record { spelled = whole ∙ sym (append-nil (items_bytes items)); follow = (trace.fits.limits, refl, rest.follow) };
      ended = rest.ended;
    }
