-- What was read and shown of the bytes, piece by piece.
use Rattle.std.proofs.Common.{◌≡◌, ℕ, ◌+◌, ◌<◌, ◌≤◌, ◌^◌, ◌-◌, List, [], ◌∷◌, ◌++◌, length, take, drop, Option, Some, None, IfSome, refl, sym, ap, subst, ◌∙◌, append-nil, append_assoc, take-append-drop, length-drop, arith}
use Rattle.std.specs.Prelude.{Err, Ok, Result}
use Rattle.std.proofs.Math.Seq.{take-length}
use Rattle.cxl_view.specs.Tallies.{Counts}
use Rattle.trace_stream.specs.declared.items.Found.{Found}
use Rattle.trace_stream.specs.declared.items.Item.{Item}
use Rattle.trace_stream.specs.declared.items.TraceFault.{TraceFault}
use Rattle.trace_stream.specs.declared.rooms.Room.{Room}
use Rattle.trace_stream.specs.declared.stages.Stage.{Stage}
use Rattle.trace_stream.specs.Items.{found_of, item_of, outcome_with}
use Rattle.trace_stream.specs.Readings.{Answered, IsDrained, Reading, Repeats, after_feed, after_next, fed_count, fed_with, taken_with}
use Rattle.trace_stream.specs.Runs.{Follow, HasRead, IsRead, SaysAfter, items_after, items_bytes, stage_after}
use Rattle.trace_stream.proofs.Extending.{says_more}
use Rattle.trace_viewer.specs.Items.{counts_in, events_in, item_text, shown_items}
use Rattle.trace_viewer.specs.Viewing.{AppendsSome, HasShown, HasShownAll, HasShownUnless, HasShownUpTo, IsSomeFront, Viewing}
use Rattle.trace_viewer.proofs.Parts.{few_events, shown_more}

-- ---- faults

-- what was read stays read, whatever follows
read_more : (bytes more : List ℕ) (items : List Item) (rest : List ℕ) → IsRead bytes items rest → IsRead (bytes ++ more) items (rest ++ more)
read_more bytes more items rest read = record { spelled = ap (λ (l : List ℕ). l ++ more) read.spelled ∙ append_assoc (items_bytes items) rest more; follow = read.follow }

-- a fault stays, whatever follows
pub fault_stays : (bytes more text : List ℕ) (fault : TraceFault) → HasShownUpTo fault bytes text → HasShownUpTo fault (bytes ++ more) text
fault_stays bytes more text fault met = record {
  items = met.items;
  rest = met.rest ++ more;
  read = read_more bytes more met.items met.rest met.read;
  says = says_more (stage_after Stage.Start met.items) (length (items_bytes met.items)) met.rest more fault met.says;
  shown = met.shown;
}

-- a fault that a reader met
refused_by : (bytes text : List ℕ) (items : List Item) (waiting : List ℕ) (met : Option TraceFault) (fault : TraceFault) → IsRead bytes items waiting → text ≡ shown_items items → met ≡ Some fault
    → IfSome met (λ f. SaysAfter items waiting (Err f)) → HasShownUpTo fault bytes text
refused_by bytes text items waiting None fault read shown is says = absurd cc
refused_by bytes text items waiting (Some own) fault read shown is says =
    let same : own ≡ fault = cc in
    record { items = items; rest = waiting; read = read; says = subst (λ (f : TraceFault). SaysAfter items waiting (Err f)) same says; shown = shown }

refused : (bytes text : List ℕ) (items : List Item) (reading : Reading) (fault : TraceFault) → HasRead bytes items reading → text ≡ shown_items items → reading.fault ≡ Some fault → HasShownUpTo fault bytes text
refused bytes text items reading fault has shown met = refused_by bytes text items reading.waiting reading.fault fault has.read shown met has.fault

-- ---- the loop over a piece

-- a viewing after some of the bytes of a piece, and what was appended since
pub record PieceAt (old now : Viewing) (out_old out_now piece rest : List ℕ) : Type 0 where
  pub read : List ℕ
  pub split : piece ≡ read ++ rest
  pub more : List ℕ
  pub appended : out_now ≡ out_old ++ more
  pub shown : (bytes text : List ℕ) → HasShown bytes text old → HasShownUnless now.reading.fault (bytes ++ read) (text ++ more) now
  pub fed : fed_count now.reading + length rest ≡ fed_count old.reading + length piece

pub piece_starts : (old : Viewing) (out piece : List ℕ) → PieceAt old old out out piece piece
piece_starts old out piece = record {
  read = [];
  split = refl;
  more = [];
  appended = sym (append-nil out);
  shown = λ bytes text has.
      subst (λ (l : List ℕ). HasShownUnless old.reading.fault l (text ++ []) old) (sym (append-nil bytes)) (subst (λ (l : List ℕ). HasShownUnless old.reading.fault bytes l old) (sym (append-nil text)) has.shown);
  fed = refl;
}

-- what a reader answers on a piece, of which so many bytes were taken
pub record IsAnswer (now : Reading) (rest : List ℕ) (count : ℕ) (outcome : Result Item TraceFault) (next : Reading) : Type 0 where
  pub answer : Answered (after_feed now (take count rest)) outcome
  pub after : next ≡ after_next (after_feed now (take count rest)) outcome
  pub goes : (bytes : List ℕ) (items : List Item) → HasRead bytes items now → HasRead (bytes ++ take count rest) (items_after items outcome) next

-- what a reader answered, as an outcome
pub answer_on :
    (now : Reading) (rest : List ℕ) (room : Room) (r : Result (Found × ℕ) TraceFault) (next : Reading) → Answered (fed_with now rest r) (outcome_with room (found_of r)) → next ≡ after_next (fed_with now rest r) (outcome_with room (found_of r))
    → ((bytes : List ℕ) (items : List Item) → HasRead bytes items now → HasRead (bytes ++ take (taken_with now rest r) rest) (items_after items (outcome_with room (found_of r))) next)
    → IsAnswer now rest (taken_with now rest r) (outcome_with room (found_of r)) next
answer_on now rest room r next answer after goes = record { answer = answer; after = after; goes = goes }

-- a reader that gives an item met no fault before
no_fault : (met : Option TraceFault) (says : Type 0) (item : Item) → Repeats met says (Ok item) → met ≡ None
no_fault None says item answer = refl
no_fault (Some fault) says item answer = absurd cc

pub unless_none : (met : Option TraceFault) (bytes text : List ℕ) (v : Viewing) → met ≡ None → HasShownUnless met bytes text v → HasShownAll bytes text v
unless_none None bytes text v none shown = shown
unless_none (Some fault) bytes text v none shown = absurd cc

none_unless : (met : Option TraceFault) (bytes text : List ℕ) (v : Viewing) → met ≡ None → HasShownAll bytes text v → HasShownUnless met bytes text v
none_unless None bytes text v none shown = shown
none_unless (Some fault) bytes text v none shown = absurd cc

some_unless : (met : Option TraceFault) (bytes text : List ℕ) (v : Viewing) (fault : TraceFault) → met ≡ Some fault → HasShownUpTo fault bytes text → HasShownUnless met bytes text v
some_unless None bytes text v fault some refused = absurd cc
some_unless (Some own) bytes text v fault some refused = let same : fault ≡ own = cc in subst (λ (f : TraceFault). HasShownUpTo f bytes text) same refused

-- where more bytes are wanted, all were read
pub more_ends :
    (old now : Viewing) (out_old out_now piece rest : List ℕ) (count : ℕ) (next : Reading) → (at : PieceAt old now out_old out_now piece rest) → IsAnswer now.reading rest count (Ok Item.More) next → count ≡ length rest → IsDrained next
    → (bytes text : List ℕ) → HasShown bytes text old → AppendsSome out_old out_now (λ more. HasShown (bytes ++ piece) (text ++ more) (record { reading = next; counted = now.counted }))
more_ends old now out_old out_now piece rest count next at answer all drained bytes text has =
    let none : now.reading.fault ≡ None = no_fault now.reading.fault _ Item.More answer.answer in
    let shown = unless_none now.reading.fault (bytes ++ at.read) (text ++ at.more) now none (at.shown bytes text has) in
    let whole : (bytes ++ at.read) ++ take count rest ≡ bytes ++ piece =
    ap (λ (n : ℕ). (bytes ++ at.read) ++ take n rest) all ∙ ap (λ (l : List ℕ). (bytes ++ at.read) ++ l) (take-length rest) ∙ append_assoc bytes at.read rest ∙ ap (λ (l : List ℕ). bytes ++ l) (sym at.split) in
    let read : HasRead (bytes ++ piece) shown.items next = subst (λ (l : List ℕ). HasRead l shown.items next) whole (answer.goes (bytes ++ at.read) shown.items shown.read) in
    let after : Viewing = record { reading = next; counted = now.counted } in
    record {
      more = at.more;
      appended = at.appended;
      holds = record {
        shown = none_unless next.fault (bytes ++ piece) (text ++ at.more) after (ap (λ (r : Reading). r.fault) answer.after ∙ none) (record { items = shown.items; read = read; shown = shown.shown; counted = shown.counted });
        drained = drained;
      };
    }

-- a fault that is answered is the one that was met before, or is met now
fault_by : (met : Option TraceFault) (says : Type 0) (fault : TraceFault) (front more text : List ℕ) (v : Viewing) → Repeats met says (Err fault) → HasShownUnless met front text v → (HasShownAll front text v → HasShownUpTo fault (front ++ more) text)
    → HasShownUpTo fault (front ++ more) text
fault_by None says fault front more text v answer shown now = now shown
fault_by (Some own) says fault front more text v answer shown now =
    let same : own ≡ fault = same_error own fault answer in subst (λ (f : TraceFault). HasShownUpTo f (front ++ more) text) same (fault_stays front more text own shown) where
      same_error : (own fault : TraceFault) → ◌≡◌ {A = Result Item TraceFault} (Err fault) (Err own) → own ≡ fault
      same_error own fault e = cc

-- where a fault is met, it is that of all bytes of the piece
pub fault_ends :
    (old now : Viewing) (out_old out_now piece rest : List ℕ) (count : ℕ) (next : Reading) (fault : TraceFault) → (at : PieceAt old now out_old out_now piece rest) → IsAnswer now.reading rest count (Err fault) next → IsDrained next
    → (bytes text : List ℕ) → HasShown bytes text old → AppendsSome out_old out_now (λ more. HasShown (bytes ++ piece) (text ++ more) (record { reading = next; counted = now.counted }))
fault_ends old now out_old out_now piece rest count next fault at answer drained bytes text has =
    let met : next.fault ≡ Some fault = ap (λ (r : Reading). r.fault) answer.after in
    let front : List ℕ = bytes ++ at.read in
    let behind : List ℕ = text ++ at.more in
    let whole : front ++ rest ≡ bytes ++ piece = append_assoc bytes at.read rest ∙ ap (λ (l : List ℕ). bytes ++ l) (sym at.split) in
    let now_met : HasShownAll front behind now → HasShownUpTo fault (front ++ rest) behind =
    λ shown.
    subst (λ (l : List ℕ). HasShownUpTo fault l behind) (append_assoc front (take count rest) (drop count rest) ∙ ap (λ (l : List ℕ). front ++ l) (take-append-drop count rest))
    (fault_stays (front ++ take count rest) (drop count rest) behind fault (refused (front ++ take count rest) behind shown.items next fault (answer.goes front shown.items shown.read) shown.shown met)) in
    let all = fault_by now.reading.fault _ fault front rest behind now answer.answer (at.shown bytes text has) now_met in
    let after : Viewing = record { reading = next; counted = now.counted } in
    record {
      more = at.more;
      appended = at.appended;
      holds = record {
        shown = some_unless next.fault (bytes ++ piece) behind after fault met (subst (λ (l : List ℕ). HasShownUpTo fault l behind) whole all);
        drained = drained;
      };
    }

-- ---- one more item

-- an item that was found is none that wants more
pub found_item : (room : Room) (found : Found) → (found ≡ Found.More → ⊥) → item_of room found ≡ Item.More → ⊥
found_item room Found.Header some e = cc
found_item room Found.Name some e = cc
found_item room Found.Opened some e = cc
found_item room Found.Event some e = cc
found_item room (Found.End count) some e = cc
found_item room Found.More some e = some refl

-- an item that was read stands behind the others
behind : (items : List Item) (item : Item) → (item ≡ Item.More → ⊥) → items_after items (Ok item) ≡ items ++ item ∷ []
behind items (Item.Header version setup) some = refl
behind items (Item.Name stream name) some = refl
behind items (Item.Opened line bytes) some = refl
behind items (Item.Event e) some = refl
behind items (Item.End count) some = refl
behind items Item.More some = absurd (some refl)

-- it is read, and the others are shown
pub record Comes (now : Viewing) (front bytes text : List ℕ) (item : Item) (next : Reading) : Type 0 where
  pub items : List Item
  pub was : IsRead front items now.reading.waiting
  pub shown : text ≡ shown_items items
  pub counted : now.counted ≡ counts_in items
  pub few : now.counted.events ≤ now.reading.place
  pub read : HasRead bytes (items ++ item ∷ []) next
  pub none : next.fault ≡ None

pub item_comes :
    (old now : Viewing) (out_old out_now piece rest : List ℕ) (count : ℕ) (item : Item) (next : Reading) → (item ≡ Item.More → ⊥) → (at : PieceAt old now out_old out_now piece rest) → IsAnswer now.reading rest count (Ok item) next
    → (bytes text : List ℕ) → HasShown bytes text old → Comes now (bytes ++ at.read) (bytes ++ (at.read ++ take count rest)) (text ++ at.more) item next
item_comes old now out_old out_now piece rest count item next some at answer bytes text has =
    let none : now.reading.fault ≡ None = no_fault now.reading.fault _ item answer.answer in
    let shown = unless_none now.reading.fault (bytes ++ at.read) (text ++ at.more) now none (at.shown bytes text has) in
    let few = few_events Stage.Start shown.items shown.read.read.follow in
    let place : now.reading.place ≡ length (items_bytes shown.items) = shown.read.place in
    let events : now.counted.events ≡ length (events_in shown.items) = ap (λ (c : Counts). c.events) shown.counted in
    let read : HasRead ((bytes ++ at.read) ++ take count rest) (shown.items ++ item ∷ []) next =
    subst (λ (l : List Item). HasRead ((bytes ++ at.read) ++ take count rest) l next) (behind shown.items item some) (answer.goes (bytes ++ at.read) shown.items shown.read) in
    record {
      items = shown.items;
      was = shown.read.read;
      shown = shown.shown;
      counted = shown.counted;
      few = omega (arith, few, place, events);
      read = subst (λ (l : List ℕ). HasRead l (shown.items ++ item ∷ []) next) (append_assoc bytes at.read (take count rest)) read;
      none = ap (λ (r : Reading). r.fault) answer.after ∙ none;
    }

-- it may be counted
pub may_count :
    (old now : Viewing) (out_old out_now piece rest front bytes text : List ℕ) (item : Item) (next : Reading) → PieceAt old now out_old out_now piece rest → fed_count old.reading + length piece < 2 ^ 63 → Comes now front bytes text item next
    → now.counted.events < 2 ^ 64 - 1
may_count old now out_old out_now piece rest front bytes text item next at small c = let fed = at.fed in let few = c.few in omega (arith, few, fed, small)

-- where memory is wanting for it, the text of those before it stands
pub item_lost :
    (old now : Viewing) (out_old out_now out_new piece rest : List ℕ) (count : ℕ) (item : Item) (next : Reading) → (item ≡ Item.More → ⊥) → (at : PieceAt old now out_old out_now piece rest) → IsAnswer now.reading rest count (Ok item) next
    → out_new ≡ out_now → (bytes text : List ℕ) → HasShown bytes text old → AppendsSome out_old out_new (λ more. IsSomeFront (bytes ++ piece) (text ++ more))
item_lost old now out_old out_now out_new piece rest count item next some at answer same bytes text has =
    let comes = item_comes old now out_old out_now piece rest count item next some at answer bytes text has in
    let whole : (bytes ++ at.read) ++ rest ≡ bytes ++ piece = append_assoc bytes at.read rest ∙ ap (λ (l : List ℕ). bytes ++ l) (sym at.split) in
    record {
      more = at.more;
      appended = same ∙ at.appended;
      holds = record {
        items = comes.items;
        rest = now.reading.waiting ++ rest;
        read = subst (λ (l : List ℕ). IsRead l comes.items (now.reading.waiting ++ rest)) whole (read_more (bytes ++ at.read) rest comes.items now.reading.waiting comes.was);
        shown = comes.shown;
      };
    }

-- and the loop goes on
pub item_goes_on :
    (old now : Viewing) (out_old out_now out_new piece rest : List ℕ) (count : ℕ) (item : Item) (next : Reading) (counted : Counts) → (item ≡ Item.More → ⊥) → PieceAt old now out_old out_now piece rest → IsAnswer now.reading rest count (Ok item) next
    → count ≤ length rest → fed_count next ≡ fed_count now.reading + count → out_new ≡ out_now ++ item_text now.counted.events item
    → ((items : List Item) → Follow Stage.Start (items ++ item ∷ []) → now.counted ≡ counts_in items → counted ≡ counts_in (items ++ item ∷ [])) → PieceAt old (record { reading = next; counted = counted }) out_old out_new piece (drop count rest)
item_goes_on old now out_old out_now out_new piece rest count item next counted some at answer within fed put counts =
    let new : Viewing = record { reading = next; counted = counted } in
    let was = at.fed in
    let left : length (drop count rest) ≡ length rest - count = length-drop count rest in
    let line : List ℕ = item_text now.counted.events item in
    record {
      read = at.read ++ take count rest;
      split = at.split ∙ ap (λ (l : List ℕ). at.read ++ l) (sym (take-append-drop count rest)) ∙ sym (append_assoc at.read (take count rest) (drop count rest));
      more = at.more ++ line;
      appended = put ∙ ap (λ (l : List ℕ). l ++ line) at.appended ∙ append_assoc out_old at.more line;
      shown = λ bytes text has.
          let comes = item_comes old now out_old out_now piece rest count item next some at answer bytes text has in
          let number : now.counted.events ≡ length (events_in comes.items) = ap (λ (c : Counts). c.events) comes.counted in
          let shown : text ++ (at.more ++ line) ≡ shown_items (comes.items ++ item ∷ []) =
          sym (append_assoc text at.more line) ∙ ap (λ (l : List ℕ). l ++ line) comes.shown ∙ ap (λ (n : ℕ). shown_items comes.items ++ item_text n item) number ∙ sym (shown_more comes.items item) in
          none_unless next.fault (bytes ++ (at.read ++ take count rest)) (text ++ (at.more ++ line)) new comes.none
          (record { items = comes.items ++ item ∷ []; read = comes.read; shown = shown; counted = counts comes.items comes.read.read.follow comes.counted });
      fed = omega (arith, was, fed, left, within);
    }
