-- What was read and judged of the bytes, piece by piece.
use Rattle.std.proofs.Common.{◌≡◌, ℕ, ◌+◌, ◌<◌, ◌≤◌, ◌^◌, ◌-◌, List, [], ◌∷◌, ◌++◌, length, take, drop, Option, Some, None, IfSome, refl, sym, ap, subst, ◌∙◌, append-nil, append_assoc, take-append-drop, length-drop, arith}
use Rattle.std.specs.Prelude.{Err, Ok, Result}
use Rattle.std.proofs.Math.Seq.{take-length}
use Rattle.trace_stream.specs.declared.items.Found.{Found}
use Rattle.trace_stream.specs.declared.items.Item.{Item}
use Rattle.trace_stream.specs.declared.items.TraceFault.{TraceFault}
use Rattle.trace_stream.specs.declared.stages.Stage.{Stage}
use Rattle.trace_stream.specs.declared.rooms.Room.{Room}
use Rattle.trace_stream.specs.Items.{event_count, found_of, item_of, outcome_with}
use Rattle.trace_stream.specs.Readings.{Answered, IsDrained, Reading, Repeats, after_feed, after_next, fed_count, fed_with, taken_with}
use Rattle.trace_stream.specs.Runs.{HasRead, IsRead, SaysAfter, items_after, items_bytes, stage_after}
use Rattle.trace_stream.proofs.Extending.{says_more}
use Rattle.trace_check.specs.declared.judging.Judging.{Judging}
use Rattle.trace_check.specs.Items.{events_in}
use Rattle.trace_check.specs.Judged.{Checking, GoesOnBy, HasChecked, HasJudged, HasJudgedUnless, IsJudged, IsLost, IsRefused, IsSettled}
use Rattle.trace_check.proofs.Parts.{few_events}
use Rattle.trace_check.proofs.Steps.{settled_after}

-- ---- faults

-- a fault stays, whatever follows
pub fault_stays : (bytes more : List ℕ) (fault : TraceFault) → IsRefused bytes fault → IsRefused (bytes ++ more) fault
fault_stays bytes more fault met = record {
  items = met.items;
  rest = met.rest ++ more;
  read = record {
    spelled = ap (λ (l : List ℕ). l ++ more) met.read.spelled ∙ append_assoc (items_bytes met.items) met.rest more;
    follow = met.read.follow;
  };
  says = says_more (stage_after Stage.Start met.items) (length (items_bytes met.items)) met.rest more fault met.says;
}

-- a fault that a reader met
refused_by : (bytes : List ℕ) (items : List Item) (waiting : List ℕ) (met : Option TraceFault) (fault : TraceFault) → IsRead bytes items waiting → met ≡ Some fault → IfSome met (λ f. SaysAfter items waiting (Err f)) → IsRefused bytes fault
refused_by bytes items waiting None fault read is says = absurd cc
refused_by bytes items waiting (Some own) fault read is says =
    let same : own ≡ fault = cc in
    record { items = items; rest = waiting; read = read; says = subst (λ (f : TraceFault). SaysAfter items waiting (Err f)) same says }

pub refused : (bytes : List ℕ) (items : List Item) (reading : Reading) (fault : TraceFault) → HasRead bytes items reading → reading.fault ≡ Some fault → IsRefused bytes fault
refused bytes items reading fault has met = refused_by bytes items reading.waiting reading.fault fault has.read met has.fault

-- ---- the loop over a piece

-- a reading and a judging after some of the bytes of a piece
pub record PieceAt (old now : Checking) (piece rest : List ℕ) : Type 0 where
  pub read : List ℕ
  pub split : piece ≡ read ++ rest
  pub judged : (bytes : List ℕ) → HasChecked bytes old → HasJudgedUnless now.reading.fault (bytes ++ read) now
  pub settled : 1 ≤ event_count now.reading.stage → IsSettled now.judging
  pub kept : IsLost now.judging → ⊥
  pub stays : IsSettled old.judging → IsSettled now.judging
  pub fed : fed_count now.reading + length rest ≡ fed_count old.reading + length piece

pub piece_starts : (old : Checking) (piece : List ℕ) → (IsLost old.judging → ⊥) → ((bytes : List ℕ) × HasChecked bytes old) → PieceAt old old piece piece
piece_starts old piece kept some = record {
  read = [];
  split = refl;
  judged = λ bytes has. subst (λ (l : List ℕ). HasJudgedUnless old.reading.fault l old) (sym (append-nil bytes)) has.judged;
  settled = some.1.settled;
  kept = kept;
  stays = λ settled. settled;
  fed = refl;
}

-- what a reader answers on a piece, of which so many bytes were taken
pub record IsAnswer (now : Reading) (rest : List ℕ) (count : ℕ) (outcome : Result Item TraceFault) (next : Reading) : Type 0 where
  pub answer : Answered (after_feed now (take count rest)) outcome
  pub after : next ≡ after_next (after_feed now (take count rest)) outcome
  pub goes : (bytes : List ℕ) (items : List Item) → HasRead bytes items now → HasRead (bytes ++ take count rest) (items_after items outcome) next

-- a reader that gives an item met no fault before
no_fault : (met : Option TraceFault) (says : Type 0) (item : Item) → Repeats met says (Ok item) → met ≡ None
no_fault None says item answer = refl
no_fault (Some fault) says item answer = absurd cc

pub unless_none : (met : Option TraceFault) (bytes : List ℕ) (c : Checking) → met ≡ None → HasJudgedUnless met bytes c → HasJudged bytes c
unless_none None bytes c none judged = judged
unless_none (Some fault) bytes c none judged = absurd cc

none_unless : (met : Option TraceFault) (bytes : List ℕ) (c : Checking) → met ≡ None → HasJudged bytes c → HasJudgedUnless met bytes c
none_unless None bytes c none judged = judged
none_unless (Some fault) bytes c none judged = absurd cc

some_unless : (met : Option TraceFault) (bytes : List ℕ) (c : Checking) (fault : TraceFault) → met ≡ Some fault → IsRefused bytes fault → HasJudgedUnless met bytes c
some_unless None bytes c fault some refused = absurd cc
some_unless (Some own) bytes c fault some refused = let same : fault ≡ own = cc in subst (IsRefused bytes) same refused

-- all bytes of a piece, in three parts
parts : (bytes read rest : List ℕ) (count : ℕ) → ((bytes ++ read) ++ take count rest) ++ drop count rest ≡ bytes ++ (read ++ rest)
parts bytes read rest count =
    append_assoc (bytes ++ read) (take count rest) (drop count rest) ∙ ap (λ (l : List ℕ). (bytes ++ read) ++ l) (take-append-drop count rest) ∙ append_assoc bytes read rest

-- where more bytes are wanted, all were read
pub more_ends : (old now : Checking) (piece rest : List ℕ) (count : ℕ) (next : Reading) → PieceAt old now piece rest → IsAnswer now.reading rest count (Ok Item.More) next → count ≡ length rest → IsDrained next
    → (bytes : List ℕ) → HasChecked bytes old → HasChecked (bytes ++ piece) (record { reading = next; judging = now.judging })
more_ends old now piece rest count next at answer all drained bytes has =
    let none : now.reading.fault ≡ None = no_fault now.reading.fault _ Item.More answer.answer in
    let judged = unless_none now.reading.fault (bytes ++ at.read) now none (at.judged bytes has) in
    let whole : (bytes ++ at.read) ++ take count rest ≡ bytes ++ piece =
    ap (λ (n : ℕ). (bytes ++ at.read) ++ take n rest) all ∙ ap (λ (l : List ℕ). (bytes ++ at.read) ++ l) (take-length rest) ∙ append_assoc bytes at.read rest ∙ ap (λ (l : List ℕ). bytes ++ l) (sym at.split) in
    let read : HasRead (bytes ++ piece) judged.items next = subst (λ (l : List ℕ). HasRead l judged.items next) whole (answer.goes (bytes ++ at.read) judged.items judged.read) in
    record {
      judged = none_unless next.fault (bytes ++ piece) (record { reading = next; judging = now.judging }) (ap (λ (r : Reading). r.fault) answer.after ∙ none) (record { items = judged.items; read = read; judged = judged.judged });
      drained = drained;
      settled = λ some. at.settled (subst (λ (r : Reading). 1 ≤ event_count r.stage) answer.after some);
    }

-- a fault that is answered is the one that was met before, or is met now
fault_by : (met : Option TraceFault) (says : Type 0) (fault : TraceFault) (front more : List ℕ) (c : Checking) → Repeats met says (Err fault) → HasJudgedUnless met front c → (HasJudged front c → IsRefused (front ++ more) fault)
    → IsRefused (front ++ more) fault
fault_by None says fault front more c answer judged now = now judged
fault_by (Some own) says fault front more c answer judged now =
    let same : own ≡ fault = same_error own fault answer in subst (IsRefused (front ++ more)) same (fault_stays front more own judged) where
      same_error : (own fault : TraceFault) → ◌≡◌ {A = Result Item TraceFault} (Err fault) (Err own) → own ≡ fault
      same_error own fault e = cc

-- where a fault is met, it is that of all bytes of the piece
pub fault_ends : (old now : Checking) (piece rest : List ℕ) (count : ℕ) (next : Reading) (fault : TraceFault) → PieceAt old now piece rest → IsAnswer now.reading rest count (Err fault) next → IsDrained next
    → (bytes : List ℕ) → HasChecked bytes old → HasChecked (bytes ++ piece) (record { reading = next; judging = now.judging })
fault_ends old now piece rest count next fault at answer drained bytes has =
    let met : next.fault ≡ Some fault = ap (λ (r : Reading). r.fault) answer.after in
    let front : List ℕ = bytes ++ at.read in
    let whole : front ++ rest ≡ bytes ++ piece = append_assoc bytes at.read rest ∙ ap (λ (l : List ℕ). bytes ++ l) (sym at.split) in
    let now_met : HasJudged front now → IsRefused (front ++ rest) fault =
    λ judged.
    subst (λ (l : List ℕ). IsRefused l fault) (append_assoc front (take count rest) (drop count rest) ∙ ap (λ (l : List ℕ). front ++ l) (take-append-drop count rest))
    (fault_stays (front ++ take count rest) (drop count rest) fault (refused (front ++ take count rest) judged.items next fault (answer.goes front judged.items judged.read) met)) in
    let all = fault_by now.reading.fault _ fault front rest now answer.answer (at.judged bytes has) now_met in
    record {
      judged = some_unless next.fault (bytes ++ piece) (record { reading = next; judging = now.judging }) fault met (subst (λ (l : List ℕ). IsRefused l fault) whole all);
      drained = drained;
      settled = λ some. at.settled (subst (λ (r : Reading). 1 ≤ event_count r.stage) answer.after some);
    }

-- ---- one more item

-- an item that was read stands behind the others
behind : (items : List Item) (item : Item) → (item ≡ Item.More → ⊥) → items_after items (Ok item) ≡ items ++ item ∷ []
behind items (Item.Header version setup) some = refl
behind items (Item.Name stream name) some = refl
behind items (Item.Opened line bytes) some = refl
behind items (Item.Event e) some = refl
behind items (Item.End count) some = refl
behind items Item.More some = absurd (some refl)

-- it is read, and the others are judged
pub record Comes (now : Checking) (bytes : List ℕ) (item : Item) (next : Reading) : Type 0 where
  pub items : List Item
  pub judged : IsJudged items now.judging
  pub few : length (events_in items) ≤ now.reading.place
  pub read : HasRead bytes (items ++ item ∷ []) next
  pub none : next.fault ≡ None

pub item_comes : (old now : Checking) (piece rest : List ℕ) (count : ℕ) (item : Item) (next : Reading) → (item ≡ Item.More → ⊥) → (at : PieceAt old now piece rest) → IsAnswer now.reading rest count (Ok item) next
    → (bytes : List ℕ) → HasChecked bytes old → Comes now (bytes ++ (at.read ++ take count rest)) item next
item_comes old now piece rest count item next some at answer bytes has =
    let none : now.reading.fault ≡ None = no_fault now.reading.fault _ item answer.answer in
    let judged = unless_none now.reading.fault (bytes ++ at.read) now none (at.judged bytes has) in
    let few = few_events Stage.Start judged.items judged.read.read.follow in
    let place : now.reading.place ≡ length (items_bytes judged.items) = judged.read.place in
    let read : HasRead ((bytes ++ at.read) ++ take count rest) (judged.items ++ item ∷ []) next =
    subst (λ (l : List Item). HasRead ((bytes ++ at.read) ++ take count rest) l next) (behind judged.items item some) (answer.goes (bytes ++ at.read) judged.items judged.read) in
    record {
      items = judged.items;
      judged = judged.judged;
      few = omega (arith, few, place);
      read = subst (λ (l : List ℕ). HasRead l (judged.items ++ item ∷ []) next) (append_assoc bytes at.read (take count rest)) read;
      none = ap (λ (r : Reading). r.fault) answer.after ∙ none;
    }

-- so it may be judged
pub comes_next : (old now : Checking) (piece rest bytes : List ℕ) (item : Item) (next : Reading) → PieceAt old now piece rest → fed_count old.reading + length piece < 2 ^ 63 → (c : Comes now bytes item next) → GoesOnBy c.items item now.judging
comes_next old now piece rest bytes item next at small c = let fed = at.fed in record { judged = c.judged; follow = c.read.read.follow; few = omega (arith, c.few, fed, small) }

-- a judging of some items isn't without memory
judged_kept : (items : List Item) (judging : Judging) → IsJudged items judging → IsLost judging → ⊥
judged_kept items Judging.Start judged lost = lost
judged_kept items (Judging.Opened setup opening) judged lost = lost
judged_kept items (Judging.Running run) judged lost = lost
judged_kept items (Judging.Broken event rule) judged lost = lost
judged_kept items Judging.NoMemory judged lost = judged

-- and the loop goes on
pub item_goes_on : (old now : Checking) (piece rest : List ℕ) (count : ℕ) (item : Item) (next : Reading) (judging : Judging) → (item ≡ Item.More → ⊥) → PieceAt old now piece rest → IsAnswer now.reading rest count (Ok item) next
    → fed_count old.reading + length piece < 2 ^ 63 → ((bytes : List ℕ) × HasChecked bytes old) → count ≤ length rest → fed_count next ≡ fed_count now.reading + count
    → ((items : List Item) → GoesOnBy items item now.judging → IsJudged (items ++ item ∷ []) judging) → (IsSettled now.judging → IsSettled judging)
    → PieceAt old (record { reading = next; judging = judging }) piece (drop count rest)
item_goes_on old now piece rest count item next judging some at answer small has within fed judged stays =
    let new : Checking = record { reading = next; judging = judging } in
    let one = item_comes old now piece rest count item next some at answer has.0 has.1 in
    let was = at.fed in
    let left : length (drop count rest) ≡ length rest - count = length-drop count rest in
    let ready = judged one.items (comes_next old now piece rest _ item next at small one) in
    record {
      read = at.read ++ take count rest;
      split = at.split ∙ ap (λ (l : List ℕ). at.read ++ l) (sym (take-append-drop count rest)) ∙ sym (append_assoc at.read (take count rest) (drop count rest));
      judged = λ bytes has_old.
          let comes = item_comes old now piece rest count item next some at answer bytes has_old in
          none_unless next.fault (bytes ++ (at.read ++ take count rest)) new comes.none
          (record { items = comes.items ++ item ∷ []; read = comes.read; judged = judged comes.items (comes_next old now piece rest _ item next at small comes) });
      settled = λ some_events. settled_after (one.items ++ item ∷ []) judging one.read.read.follow ready (subst (λ (s : Stage). 1 ≤ event_count s) one.read.stage some_events);
      kept = judged_kept (one.items ++ item ∷ []) judging ready;
      stays = λ settled. stays (at.stays settled);
      fed = omega (arith, was, fed, left, within);
    }

-- what a reader answered, as an outcome
pub answer_on :
    (now : Reading) (rest : List ℕ) (room : Room) (r : Result (Found × ℕ) TraceFault) (next : Reading) → Answered (fed_with now rest r) (outcome_with room (found_of r)) → next ≡ after_next (fed_with now rest r) (outcome_with room (found_of r))
    → ((bytes : List ℕ) (items : List Item) → HasRead bytes items now → HasRead (bytes ++ take (taken_with now rest r) rest) (items_after items (outcome_with room (found_of r))) next)
    → IsAnswer now rest (taken_with now rest r) (outcome_with room (found_of r)) next
answer_on now rest room r next answer after goes = record { answer = answer; after = after; goes = goes }

-- an item that was found is none that wants more
pub found_item : (room : Room) (found : Found) → (found ≡ Found.More → ⊥) → item_of room found ≡ Item.More → ⊥
found_item room Found.Header some e = cc
found_item room Found.Name some e = cc
found_item room Found.Opened some e = cc
found_item room Found.Event some e = cc
found_item room (Found.End count) some e = cc
found_item room Found.More some e = some refl
