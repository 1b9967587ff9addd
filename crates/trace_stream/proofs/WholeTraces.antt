-- Items up to an end record are those of a trace.
use Rattle.std.proofs.Common.{◌≡◌, ℕ, ◌+◌, Bool, true, false, cond, List, [], ◌∷◌, ◌++◌, length, map, Option, Some, None, IfNone, IsTrue, Ok, refl, sym, ap, subst, ◌∙◌, append_assoc, append-nil, arith, nat_lt, nat_le, eqb}
use Rattle.std.specs.Prelude.{◌&&◌, not}
use Rattle.std.specs.List.{flat_map, list_all, AllByRecursion}
use Rattle.std.proofs.lemmas.Bool.{and_parts, and_from, eqb-true}
use Rattle.cxl_message.specs.Setup.{Configuration}
use Rattle.cxl_message.specs.Codes.{bytes_eq}
use Rattle.arrayvec.specs.ArrayVec.{ArrayVec}
use Rattle.cxl_message.specs.Names.{names_ascend_from, names_fit}
use Rattle.cxl_codec.specs.declared.versions.Version.{Version}
use Rattle.cxl_codec.specs.NameRecord.{NameFits}
use Rattle.cxl_message.specs.Opening.{ascends_from, opening_fits, zero_bytes}
use Rattle.cxl_message.specs.declared.identifiers.Line.{Line}
use Rattle.cxl_message.specs.declared.identifiers.Bytes64.{Bytes64}
use Rattle.cxl_message.specs.declared.events.Event.{Event}
use Rattle.cxl_codec.specs.Header.{HeaderFitsIn}
use Rattle.cxl_codec.specs.Openings.{OpeningFits}
use Rattle.cxl_codec.specs.Events.{EventFitsIn}
use Rattle.cxl_codec.specs.EndRecord.{EndFits}
use Rattle.cxl_codec.specs.Traces.{end_bytes, event_bytes_in, header_bytes_in, name_bytes, opening_bytes}
use Rattle.trace_stream.specs.declared.items.Item.{Item}
use Rattle.trace_stream.specs.declared.items.Reason.{Reason}
use Rattle.trace_stream.specs.declared.items.TraceFault.{TraceFault}
use Rattle.trace_stream.specs.declared.stages.Stage.{Stage}
use Rattle.trace_stream.specs.Items.{Says, advance, event_count, opens_well, record_fault, version_of}
use Rattle.trace_stream.specs.Readings.{Reading, IsDrained}
use Rattle.trace_stream.specs.Runs.{Follow, HasRead, IsTraceOf, bytes_from, items_bytes, name_item, stage_after}
use Rattle.trace_stream.proofs.TraceItems.{grouped}

-- a test that found nothing wrong
passed : (b : Bool) (reason : Reason) → cond b None (Some reason) ≡ None → b ≡ true
passed true reason e = refl
passed false reason e = absurd cc

-- nothing follows the end record
nothing_behind : (count : ℕ) (items : List Item) → Follow (Stage.Ended count) items → items ≡ []
nothing_behind count [] follow = refl
nothing_behind count (item ∷ items) follow = absurd follow.0

-- events and the end record
record Ending (version : Version) (stage : Stage) (items : List Item) (read count : ℕ) : Type 0 where
  events : List Event
  same : items ≡ map Item.Event events ++ Item.End count ∷ []
  spelled : bytes_from stage items ≡ flat_map (event_bytes_in version) events ++ end_bytes count
  each : AllByRecursion (EventFitsIn version) events
  number : count ≡ read + length events
  end : EndFits count

-- an end record alone
end_alone : (version : Version) (stage : Stage) (items : List Item) (n count : ℕ) → EndFits n → record_fault stage (Item.End n) ≡ None → Follow (Stage.Ended n) items → stage_after (Stage.Ended n) items ≡ Stage.Ended count
    → Ending version stage (Item.End n ∷ items) (event_count stage) count
end_alone version stage [] n count fits right follow ended =
    let same : n ≡ count = cc in
    let counted : n ≡ event_count stage = eqb-true n (event_count stage) (passed (eqb n (event_count stage)) Reason.Count right) in
    record {
      events = [];
      same = ap (λ (k : ℕ). Item.End k ∷ []) same;
      spelled = append-nil (end_bytes n) ∙ ap (λ (k : ℕ). end_bytes k) same;
      each = tt;
      number = omega (arith, same, counted);
      end = subst EndFits same fits;
    }
end_alone version stage (item ∷ items) n count fits right follow ended = absurd follow.0

-- one more event before others
event_before : (version : Version) (stage : Stage) (e : Event) (items : List Item) (read count : ℕ) → version_of stage ≡ version → EventFitsIn version e → Ending version (advance stage (Item.Event e)) items (read + 1) count
    → Ending version stage (Item.Event e ∷ items) read count
event_before version stage e items read count own fits rest = record {
  events = e ∷ rest.events;
  same = ap (λ (l : List Item). Item.Event e ∷ l) rest.same;
  spelled =
      ap (λ (l : List ℕ). event_bytes_in (version_of stage) e ++ l) rest.spelled ∙ ap (λ (v : Version). event_bytes_in v e ++ (flat_map (event_bytes_in version) rest.events ++ end_bytes count)) own
      ∙ sym (append_assoc (event_bytes_in version e) (flat_map (event_bytes_in version) rest.events) (end_bytes count));
  each = (fits, rest.each);
  number = omega (arith, rest.number);
  end = rest.end;
}

from_events : (version : Version) (items : List Item) (read count : ℕ) → Follow (Stage.Events version read) items → stage_after (Stage.Events version read) items ≡ Stage.Ended count → Ending version (Stage.Events version read) items read count
from_events version [] read count follow ended = absurd cc
from_events version (Item.Header own setup ∷ items) read count follow ended = absurd follow.0
from_events version (Item.Name stream name ∷ items) read count follow ended = absurd follow.0
from_events version (Item.Opened line bytes ∷ items) read count follow ended = absurd follow.0
from_events version (Item.Event e ∷ items) read count follow ended =
    event_before version (Stage.Events version read) e items read count refl follow.0 (from_events version items (read + 1) count follow.2 ended)
from_events version (Item.End n ∷ items) read count follow ended = end_alone version (Stage.Events version read) items n count follow.0 follow.1 follow.2 ended
from_events version (Item.More ∷ items) read count follow ended = absurd follow.0

-- openings, events and the end record
record Opens (version : Version) (stage : Stage) (items : List Item) (lines next count : ℕ) : Type 0 where
  opening : List (Line × Bytes64)
  events : List Event
  same : items ≡ map (λ pair. Item.Opened pair.0 pair.1) opening ++ (map Item.Event events ++ Item.End count ∷ [])
  spelled : bytes_from stage items ≡ flat_map opening_bytes opening ++ (flat_map (event_bytes_in version) events ++ end_bytes count)
  ascending : IsTrue (ascends_from next opening)
  not_zero : IsTrue (list_all (λ p. not (bytes_eq p.1 zero_bytes)) opening)
  below : IsTrue (opening_fits lines opening)
  each_opening : AllByRecursion OpeningFits opening
  each_event : AllByRecursion (EventFitsIn version) events
  number : count ≡ length events
  end : EndFits count

-- no more openings
no_opening : (version : Version) (stage : Stage) (items : List Item) (lines next count : ℕ) → Ending version stage items 0 count → Opens version stage items lines next count
no_opening version stage items lines next count rest = record {
  opening = [];
  events = rest.events;
  same = rest.same;
  spelled = rest.spelled;
  ascending = refl;
  not_zero = refl;
  below = refl;
  each_opening = tt;
  each_event = rest.each;
  number = omega (arith, rest.number);
  end = rest.end;
}

-- one more opening before others
opening_before : (version : Version) (stage : Stage) (line : Line) (bytes : Bytes64) (items : List Item) (lines next count : ℕ) → OpeningFits (line, bytes) → opens_well lines next line.0 bytes ≡ true
    → Opens version (advance stage (Item.Opened line bytes)) items lines (line.0 + 1) count → Opens version stage (Item.Opened line bytes ∷ items) lines next count
opening_before version stage line bytes items lines next count fits well rest =
    let tests = and_parts (nat_le next line.0 && nat_lt line.0 lines) (not (bytes_eq bytes zero_bytes)) well in
    let places = and_parts (nat_le next line.0) (nat_lt line.0 lines) tests.0 in
    record {
      opening = (line, bytes) ∷ rest.opening;
      events = rest.events;
      same = ap (λ (l : List Item). Item.Opened line bytes ∷ l) rest.same;
      spelled =
          ap (λ (l : List ℕ). opening_bytes (line, bytes) ++ l) rest.spelled
          ∙ sym (append_assoc (opening_bytes (line, bytes)) (flat_map opening_bytes rest.opening) (flat_map (event_bytes_in version) rest.events ++ end_bytes count));
      ascending = and_from (nat_le next line.0) (ascends_from (line.0 + 1) rest.opening) places.0 rest.ascending;
      not_zero = and_from (not (bytes_eq bytes zero_bytes)) (list_all (λ p. not (bytes_eq p.1 zero_bytes)) rest.opening) tests.1 rest.not_zero;
      below = and_from (nat_lt line.0 lines) (opening_fits lines rest.opening) places.1 rest.below;
      each_opening = (fits, rest.each_opening);
      each_event = rest.each_event;
      number = rest.number;
      end = rest.end;
    }

from_openings : (version : Version) (items : List Item) (lines next count : ℕ) → Follow (Stage.Openings version lines next) items → stage_after (Stage.Openings version lines next) items ≡ Stage.Ended count
    → Opens version (Stage.Openings version lines next) items lines next count
from_openings version [] lines next count follow ended = absurd cc
from_openings version (Item.Header own setup ∷ items) lines next count follow ended = absurd follow.0
from_openings version (Item.Name stream name ∷ items) lines next count follow ended = absurd follow.0
from_openings version (Item.Opened line bytes ∷ items) lines next count follow ended =
    opening_before version (Stage.Openings version lines next) line bytes items lines next count follow.0 (passed (opens_well lines next line.0 bytes) Reason.Opening follow.1) (from_openings version items lines (line.0 + 1) count follow.2 ended)
from_openings version (Item.Event e ∷ items) lines next count follow ended =
    no_opening version (Stage.Openings version lines next) (Item.Event e ∷ items) lines next count (event_before version (Stage.Openings version lines next) e items 0 count refl follow.0 (from_events version items 1 count follow.2 ended))
from_openings version (Item.End n ∷ items) lines next count follow ended =
    no_opening version (Stage.Openings version lines next) (Item.End n ∷ items) lines next count (end_alone version (Stage.Openings version lines next) items n count follow.0 follow.1 follow.2 ended)
from_openings version (Item.More ∷ items) lines next count follow ended = absurd follow.0

-- names, openings, events and the end record
record NamesStreams (stage : Stage) (items : List Item) (streams lines next count : ℕ) : Type 0 where
  names : List (ℕ × List ℕ)
  rest : List Item
  at : Stage
  opens : Opens Version.Two at rest lines 0 count
  same : items ≡ map name_item names ++ rest
  spelled : bytes_from stage items ≡ flat_map name_bytes names ++ bytes_from at rest
  named : IsTrue (names_ascend_from next names)
  below : IsTrue (names_fit streams names)
  each_name : AllByRecursion NameFits names

-- no more names
no_name : (stage : Stage) (items : List Item) (streams lines next count : ℕ) → Opens Version.Two stage items lines 0 count → NamesStreams stage items streams lines next count
no_name stage items streams lines next count opens = record { names = []; rest = items; at = stage; opens = opens; same = refl; spelled = refl; named = refl; below = refl; each_name = tt }

-- one more name before others
name_before : (stage : Stage) (stream : ℕ) (name : ArrayVec ℕ) (items : List Item) (streams lines next count : ℕ) → NameFits (stream, name.items) → nat_le next stream && nat_lt stream streams ≡ true
    → NamesStreams (advance stage (Item.Name stream name)) items streams lines (stream + 1) count → NamesStreams stage (Item.Name stream name ∷ items) streams lines next count
name_before stage stream name items streams lines next count fits may others =
    let tests = and_parts (nat_le next stream) (nat_lt stream streams) may in
    record {
      names = (stream, name.items) ∷ others.names;
      rest = others.rest;
      at = others.at;
      opens = others.opens;
      same = ap (λ (l : List Item). Item.Name stream name ∷ l) others.same;
      spelled = ap (λ (l : List ℕ). name_bytes (stream, name.items) ++ l) others.spelled ∙ sym (append_assoc (name_bytes (stream, name.items)) (flat_map name_bytes others.names) (bytes_from others.at others.rest));
      named = and_from (nat_le next stream) (names_ascend_from (stream + 1) others.names) tests.0 others.named;
      below = and_from (nat_lt stream streams) (names_fit streams others.names) tests.1 others.below;
      each_name = (fits, others.each_name);
    }

from_names : (items : List Item) (streams lines next count : ℕ) → Follow (Stage.Names streams lines next) items → stage_after (Stage.Names streams lines next) items ≡ Stage.Ended count → NamesStreams (Stage.Names streams lines next) items streams lines next count
from_names [] streams lines next count follow ended = absurd cc
from_names (Item.Header own setup ∷ items) streams lines next count follow ended = absurd follow.0
from_names (Item.Name stream name ∷ items) streams lines next count follow ended =
    name_before (Stage.Names streams lines next) stream name items streams lines next count follow.0 (passed (nat_le next stream && nat_lt stream streams) Reason.Name follow.1) (from_names items streams lines (stream + 1) count follow.2 ended)
from_names (Item.Opened line bytes ∷ items) streams lines next count follow ended =
    no_name (Stage.Names streams lines next) (Item.Opened line bytes ∷ items) streams lines next count
    (opening_before Version.Two (Stage.Names streams lines next) line bytes items lines 0 count follow.0 (passed (opens_well lines 0 line.0 bytes) Reason.Opening follow.1) (from_openings Version.Two items lines (line.0 + 1) count follow.2 ended))
from_names (Item.Event e ∷ items) streams lines next count follow ended =
    no_name (Stage.Names streams lines next) (Item.Event e ∷ items) streams lines next count
    (no_opening Version.Two (Stage.Names streams lines next) (Item.Event e ∷ items) lines 0 count (event_before Version.Two (Stage.Names streams lines next) e items 0 count refl follow.0 (from_events Version.Two items 1 count follow.2 ended)))
from_names (Item.End n ∷ items) streams lines next count follow ended =
    no_name (Stage.Names streams lines next) (Item.End n ∷ items) streams lines next count
    (no_opening Version.Two (Stage.Names streams lines next) (Item.End n ∷ items) lines 0 count (end_alone Version.Two (Stage.Names streams lines next) items n count follow.0 follow.1 follow.2 ended))
from_names (Item.More ∷ items) streams lines next count follow ended = absurd follow.0

-- a header of version 1, and then all of the others
from_first : (setup : Configuration) (items : List Item) (count : ℕ) → HeaderFitsIn Version.One setup → Opens Version.One (Stage.Openings Version.One setup.lines 0) items setup.lines 0 count
    → IsTraceOf (items_bytes (Item.Header Version.One setup ∷ items)) (Item.Header Version.One setup ∷ items) count
from_first setup items count limits rest =
    let head : List ℕ = header_bytes_in Version.One setup in
    record {
      version = Version.One;
      setup = setup;
      names = [];
      opening = rest.opening;
      events = rest.events;
      trace = record {
        fits = record { limits = limits; each_name = tt; each_opening = rest.each_opening; each_event = rest.each_event; count = subst EndFits rest.number rest.end };
        named = refl;
        ascending = record { ascending = rest.ascending; not_zero = rest.not_zero };
        lines = rest.below;
        spelled =
            ap (λ (l : List ℕ). head ++ l) rest.spelled ∙ ap (λ (n : ℕ). head ++ (flat_map opening_bytes rest.opening ++ (flat_map (event_bytes_in Version.One) rest.events ++ end_bytes n))) rest.number
            ∙ sym (grouped Version.One setup [] rest.opening rest.events);
      };
      same =
          ap (λ (l : List Item). Item.Header Version.One setup ∷ l) rest.same
          ∙ ap (λ (n : ℕ). Item.Header Version.One setup ∷ (map (λ pair. Item.Opened pair.0 pair.1) rest.opening ++ (map Item.Event rest.events ++ Item.End n ∷ []))) rest.number;
      number = rest.number;
    }

-- a header of version 2, and then all of the others
from_second : (setup : Configuration) (items : List Item) (count : ℕ) → HeaderFitsIn Version.Two setup → NamesStreams (Stage.Names (length setup.streams) setup.lines 0) items (length setup.streams) setup.lines 0 count
    → IsTraceOf (items_bytes (Item.Header Version.Two setup ∷ items)) (Item.Header Version.Two setup ∷ items) count
from_second setup items count limits others =
    let head : List ℕ = header_bytes_in Version.Two setup in
    let rest = others.opens in
    let named : List ℕ = flat_map name_bytes others.names in
    record {
      version = Version.Two;
      setup = setup;
      names = others.names;
      opening = rest.opening;
      events = rest.events;
      trace = record {
        fits = record { limits = limits; each_name = others.each_name; each_opening = rest.each_opening; each_event = rest.each_event; count = subst EndFits rest.number rest.end };
        named = (others.named, others.below);
        ascending = record { ascending = rest.ascending; not_zero = rest.not_zero };
        lines = rest.below;
        spelled =
            ap (λ (l : List ℕ). head ++ l) (others.spelled ∙ ap (λ (l : List ℕ). named ++ l) rest.spelled)
            ∙ ap (λ (n : ℕ). head ++ (named ++ (flat_map opening_bytes rest.opening ++ (flat_map (event_bytes_in Version.Two) rest.events ++ end_bytes n)))) rest.number
            ∙ sym (grouped Version.Two setup others.names rest.opening rest.events);
      };
      same =
          ap (λ (l : List Item). Item.Header Version.Two setup ∷ l) (others.same ∙ ap (λ (l : List Item). map name_item others.names ++ l) rest.same)
          ∙ ap (λ (n : ℕ). Item.Header Version.Two setup ∷ (map name_item others.names ++ (map (λ pair. Item.Opened pair.0 pair.1) rest.opening ++ (map Item.Event rest.events ++ Item.End n ∷ [])))) rest.number;
      number = rest.number;
    }

-- items from the start on, up to an end record
pub whole_trace : (items : List Item) (count : ℕ) → Follow Stage.Start items → stage_after Stage.Start items ≡ Stage.Ended count → IsTraceOf (items_bytes items) items count
whole_trace [] count follow ended = absurd cc
whole_trace (Item.Header Version.One setup ∷ items) count follow ended = from_first setup items count follow.0 (from_openings Version.One items setup.lines 0 count follow.2 ended)
whole_trace (Item.Header Version.Two setup ∷ items) count follow ended = from_second setup items count follow.0 (from_names items (length setup.streams) setup.lines 0 count follow.2 ended)
whole_trace (Item.Name stream name ∷ items) count follow ended = absurd follow.0
whole_trace (Item.Opened line bytes ∷ items) count follow ended = absurd follow.0
whole_trace (Item.Event e ∷ items) count follow ended = absurd follow.0
whole_trace (Item.End n ∷ items) count follow ended = absurd follow.0
whole_trace (Item.More ∷ items) count follow ended = absurd follow.0

-- where the end record was read and nothing more is wanted, no byte waits
none_waits : (fault : Option TraceFault) (stage : Stage) (place : ℕ) (waiting : List ℕ) (count : ℕ) → IfNone fault (Says stage place waiting (Ok Item.More)) → fault ≡ None → stage ≡ Stage.Ended count → waiting ≡ []
none_waits None stage place [] count drained none ended = refl
none_waits None stage place (b ∷ waiting) count drained none ended =
    let says : Says (Stage.Ended count) place (b ∷ waiting) (Ok Item.More) = subst (λ (s : Stage). Says s place (b ∷ waiting) (Ok Item.More)) ended drained in
    absurd cc
none_waits (Some fault) stage place waiting count drained none ended = absurd cc

-- what was read up to an end record, where nothing more is wanted, is a trace
pub finished : (bytes : List ℕ) (items : List Item) (reading : Reading) (count : ℕ) → HasRead bytes items reading → IsDrained reading → reading.fault ≡ None → reading.stage ≡ Stage.Ended count → IsTraceOf bytes items count
finished bytes items reading count has drained none ended =
    let empty : reading.waiting ≡ [] = none_waits reading.fault reading.stage reading.place reading.waiting count drained none ended in
    let whole : bytes ≡ items_bytes items = has.read.spelled ∙ ap (λ (l : List ℕ). items_bytes items ++ l) empty ∙ append-nil (items_bytes items) in
    subst (λ (l : List ℕ). IsTraceOf l items count) (sym whole) (whole_trace items count has.read.follow (sym has.stage ∙ ended))
