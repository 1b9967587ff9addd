-- An item that stands at the front of some bytes is what their front says, if it is long enough.
use Rattle.std.proofs.Common.{◌≡◌, ℕ, ◌+◌, ◌-◌, ◌<◌, ◌≤◌, min, List, [], ◌++◌, length, take, drop, Option, Some, None, Result, Ok, Err, refl, sym, ap, subst, ◌∙◌, arith, append_assoc, length-append, length-drop, length-take-le, take-append-drop}
use Rattle.std.specs.Option.{option_map_or}
use Rattle.std.proofs.lemmas.List.{take-take, take_at, drop-take, length-take}
use Rattle.trace_stream.specs.declared.items.Found.{Found}
use Rattle.trace_stream.specs.declared.items.Item.{Item}
use Rattle.trace_stream.specs.declared.items.TraceFault.{TraceFault}
use Rattle.trace_stream.specs.declared.rooms.Room.{Room}
use Rattle.trace_stream.specs.declared.stages.Stage.{Stage}
use Rattle.trace_stream.specs.Items.{cells_at, item_length, item_of, fault_at, Allows, ReadsAs, Says}
use Rattle.trace_stream.specs.Readings.{Reading, Answered, Repeats, after_feed, after_next, taken_count}
use Rattle.trace_stream.proofs.Extending.{StandsAt, item_stands, record_within}
use Rattle.trace_stream.proofs.Pauses.{room_left}

-- what was found is an item, if it isn't More
pub item_some : (room : Room) (found : Found) → (found ≡ Found.More → ⊥) → item_of room found ≡ Item.More → ⊥
item_some room Found.Header some e = cc
item_some room Found.Name some e = cc
item_some room Found.Opened some e = cc
item_some room Found.Event some e = cc
item_some room (Found.End count) some e = cc
item_some room Found.More some e = some refl

-- a whole record says its item, whatever is left behind it
alone : (stage : Stage) (place : ℕ) (bytes : List ℕ) (item : Item) (n : ℕ) → StandsAt stage bytes item → item_length stage item ≤ n → ReadsAs stage place (take n bytes) (Ok item)
alone stage place bytes item n o long = record {
  answer = Ok (item, item_length stage item);
  answered = record {
    fits = o.begins.fits;
    spelled = take-take (item_length stage item) n bytes long ∙ o.begins.spelled;
    whole = refl;
  };
  comes_to = sym (ap (λ fault. option_map_or (λ reason. Err (fault_at place reason)) fault (Ok item)) o.right);
}

pub says_front : (stage : Stage) (place : ℕ) (bytes : List ℕ) (item : Item) (n : ℕ) → Says stage place bytes (Ok item) → (item ≡ Item.More → ⊥) → item_length stage item ≤ n → Says stage place (take n bytes) (Ok item)
says_front Stage.Start place bytes item n says some long = alone Stage.Start place bytes item n (item_stands Stage.Start place bytes item says some) long
says_front (Stage.Names streams lines next) place bytes item n says some long = alone (Stage.Names streams lines next) place bytes item n (item_stands (Stage.Names streams lines next) place bytes item says some) long
says_front (Stage.Openings version lines next) place bytes item n says some long = alone (Stage.Openings version lines next) place bytes item n (item_stands (Stage.Openings version lines next) place bytes item says some) long
says_front (Stage.Events version count) place bytes item n says some long = alone (Stage.Events version count) place bytes item n (item_stands (Stage.Events version count) place bytes item says some) long
says_front (Stage.Ended count) place bytes item n says some long = absurd ((item_stands (Stage.Ended count) place bytes item says some).begins.fits)

repeats_front : (fault : Option TraceFault) (stage : Stage) (place : ℕ) (bytes : List ℕ) (item : Item) (n : ℕ) → Repeats fault (Says stage place bytes (Ok item)) (Ok item) → (item ≡ Item.More → ⊥) → item_length stage item ≤ n
    → Repeats fault (Says stage place (take n bytes) (Ok item)) (Ok item)
repeats_front None stage place bytes item n says some long = says_front stage place bytes item n says some long
repeats_front (Some fault) stage place bytes item n e some long = absurd cc

-- its bytes are among those that say it
within_bytes : (fault : Option TraceFault) (stage : Stage) (place : ℕ) (bytes : List ℕ) (item : Item) → Repeats fault (Says stage place bytes (Ok item)) (Ok item) → (item ≡ Item.More → ⊥) → item_length stage item ≤ length bytes
within_bytes None stage place bytes item says some = record_within (Allows stage) (cells_at stage) bytes [] item (item_length stage item) (item_stands stage place bytes item says some).begins
within_bytes (Some fault) stage place bytes item e some = absurd cc

-- the front of bytes that wait and of a piece behind them
front_of : (waited piece : List ℕ) (count n : ℕ) → n ≤ count → count ≤ length piece → take (length waited + n) (waited ++ take count piece) ≡ waited ++ take n piece
front_of waited piece count n fewer within =
    let fed : List ℕ = take count piece in
    let size : length fed ≡ count = length-take-le count piece within in
    ap (λ (l : List ℕ). take (length waited + n) (waited ++ l)) (sym (take-append-drop n fed)) ∙ ap (λ (l : List ℕ). take (length waited + n) l) (sym (append_assoc waited (take n fed) (drop n fed)))
    ∙ take_at (waited ++ take n fed) (drop n fed) (length waited + n) (omega (arith, length-append waited (take n fed), length-take-le n fed (omega (arith, size, fewer))))
    ∙ ap (λ (l : List ℕ). waited ++ l) (take-take n count piece fewer)

-- what was fed behind an item may go back: the answer is as if it had not been fed
pub record GoesBack (reading : Reading) (piece : List ℕ) (count back : ℕ) (item : Item) : Type 0 where
  pub answered : Answered (after_feed reading (take (count - back) piece)) (Ok item)
  pub left :
      take (length (drop (item_length reading.stage item) (reading.waiting ++ take count piece)) - back) (drop (item_length reading.stage item) (reading.waiting ++ take count piece))
      ≡ drop (item_length reading.stage item) (reading.waiting ++ take (count - back) piece)

pub goes_back : (reading : Reading) (piece : List ℕ) (count back : ℕ) (item : Item) → count ≤ length piece → back ≤ count → back ≤ length (drop (item_length reading.stage item) (reading.waiting ++ take count piece))
    → Answered (after_feed reading (take count piece)) (Ok item) → (item ≡ Item.More → ⊥) → GoesBack reading piece count back item
goes_back reading piece count back item within fewer behind says some =
    let waited : List ℕ = reading.waiting in
    let all : List ℕ = waited ++ take count piece in
    let size : length all ≡ length waited + count = length-append waited (take count piece) ∙ ap (λ (n : ℕ). length waited + n) (length-take-le count piece within) in
    let long : item_length reading.stage item ≤ length all = within_bytes reading.fault reading.stage reading.place all item says some in
    let rest : length (drop (item_length reading.stage item) all) ≡ length all - item_length reading.stage item = length-drop (item_length reading.stage item) all in
    let kept : ℕ = length waited + (count - back) in
    let enough : item_length reading.stage item ≤ kept = omega (arith, size, long, rest, behind, fewer) in
    let front : take kept all ≡ waited ++ take (count - back) piece = front_of waited piece count (count - back) (omega arith) within in
    let more : item_length reading.stage item + (kept - item_length reading.stage item) ≡ kept = omega (arith, enough) in
    let same : length (drop (item_length reading.stage item) all) - back ≡ kept - item_length reading.stage item = omega (arith, size, long, rest, behind, fewer) in
    record {
      answered = subst (λ (l : List ℕ). Repeats reading.fault (Says reading.stage reading.place l (Ok item)) (Ok item)) front (repeats_front reading.fault reading.stage reading.place all item kept says some enough);
      left =
          ap (λ (n : ℕ). take n (drop (item_length reading.stage item) all)) same ∙ sym (drop-take (item_length reading.stage item) (kept - item_length reading.stage item) all) ∙ ap (λ (n : ℕ). drop (item_length reading.stage item) (take n all)) more
          ∙ ap (λ (l : List ℕ). drop (item_length reading.stage item) l) front;
    }

-- without so many of the last of the bytes that wait
pub left_off : (items now : List ℕ) (start count size : ℕ) (kept : List ℕ) → drop start items ≡ now → size ≡ length now → kept ≡ take (start + (size - count)) items → drop start kept ≡ take (length now - count) now
left_off items now start count size kept view is cut =
    ap (λ (l : List ℕ). drop start l) cut ∙ drop-take start (size - count) items ∙ ap (λ (l : List ℕ). take (size - count) l) view ∙ ap (λ (n : ℕ). take (n - count) now) is

-- a reading from which what was fed behind an item went back
pub record Left (old : Reading) (piece : List ℕ) (kept : ℕ) (item : Item) (left : Reading) : Type 0 where
  pub answered : Answered (after_feed old (take kept piece)) (Ok item)
  pub after : left ≡ after_next (after_feed old (take kept piece)) (Ok item)

pub leaves : (old mid stepped left : Reading) (piece : List ℕ) (count back : ℕ) (item : Item) → mid ≡ after_feed old (take count piece) → count ≤ length piece → Answered mid (Ok item) → stepped ≡ after_next mid (Ok item)
    → back ≤ count → back ≤ length stepped.waiting → left ≡ record stepped { waiting = take (length stepped.waiting - back) stepped.waiting } → (item ≡ Item.More → ⊥) → Left old piece (count - back) item left
leaves old mid stepped left piece count back item fed within says stepped-is fewer behind left-is some =
    let full : Reading = after_feed old (take count piece) in
    let full_says : Answered full (Ok item) = subst (λ (r : Reading). Answered r (Ok item)) fed says in
    let next : stepped ≡ after_next full (Ok item) = stepped-is ∙ ap (λ (r : Reading). after_next r (Ok item)) fed in
    let enough : back ≤ length (drop (item_length old.stage item) (old.waiting ++ take count piece)) = subst (λ (r : Reading). back ≤ length r.waiting) next behind in
    let goes : GoesBack old piece count back item = goes_back old piece count back item within fewer enough full_says some in
    let cut : left ≡ record (after_next full (Ok item)) { waiting = take (length (after_next full (Ok item)).waiting - back) (after_next full (Ok item)).waiting } =
    left-is ∙ ap (λ (r : Reading). record r { waiting = take (length r.waiting - back) r.waiting }) next in
    record { answered = goes.answered; after = cut ∙ ap (λ (w : List ℕ). record (after_next full (Ok item)) { waiting = w }) goes.left }

-- where more is wanted, the longest record doesn't wait
pub short_waiting : (reading : Reading) (item : Item) → Answered reading (Ok item) → ◌≡◌ {A = Result Item TraceFault} (Ok item) (Ok Item.More) → length reading.waiting < 370
short_waiting reading item says same = room_left reading (Ok Item.More) (subst (λ (o : Result Item TraceFault). Answered reading o) same says) refl

-- so all of a piece was taken
pub all_taken : (old mid : Reading) (piece : List ℕ) (count : ℕ) → mid ≡ after_feed old (take count piece) → count ≡ taken_count old piece → length mid.waiting < 370 → count ≡ length piece
all_taken old mid piece count fed is short =
    let size : length mid.waiting ≡ length (old.waiting ++ take count piece) = ap (λ (r : Reading). length r.waiting) fed in
    omega (arith, is, short, size, length-append old.waiting (take count piece), length-take count piece)
