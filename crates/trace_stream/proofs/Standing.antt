-- The items that were read, and one more.
use Rattle.std.proofs.Common.{◌≡◌, ℕ, ◌+◌, List, [], ◌∷◌, ◌++◌, length, drop, Option, Some, None, IfSome, Result, Ok, Err, refl, sym, ap, subst, ◌∙◌, append_assoc, append-nil, add-zero, length-append}
use Rattle.std.proofs.lemmas.List.{length-map, take-append-drop}
use Rattle.cxl_codec.specs.Cells.{Cell}
use Rattle.trace_stream.specs.declared.items.Item.{Item}
use Rattle.trace_stream.specs.declared.items.TraceFault.{TraceFault}
use Rattle.trace_stream.specs.declared.stages.Stage.{Stage}
use Rattle.trace_stream.specs.Items.{cells_at, item_length, advance, record_fault, Allows, Says}
use Rattle.trace_stream.specs.Readings.{Reading, Repeats, Answered, after_next}
use Rattle.trace_stream.specs.Runs.{bytes_from, item_bytes, items_bytes, stage_after, Follow, SaysAfter, HasRead, items_after}
use Rattle.trace_stream.proofs.Extending.{StandsAt, item_stands, says_more}

-- the bytes of one more item
pub bytes_from-push : (stage : Stage) (items : List Item) (item : Item) → bytes_from stage (items ++ item ∷ []) ≡ bytes_from stage items ++ item_bytes (stage_after stage items) item
bytes_from-push stage [] item = append-nil (item_bytes stage item)
bytes_from-push stage (i ∷ items) item =
    ap (λ (l : List ℕ). item_bytes stage i ++ l) (bytes_from-push (advance stage i) items item)
    ∙ sym (append_assoc (item_bytes stage i) (bytes_from (advance stage i) items) (item_bytes (stage_after (advance stage i) items) item))

-- the stage after one more item
pub stage_after-push : (stage : Stage) (items : List Item) (item : Item) → stage_after stage (items ++ item ∷ []) ≡ advance (stage_after stage items) item
stage_after-push stage [] item = refl
stage_after-push stage (i ∷ items) item = stage_after-push (advance stage i) items item

-- one more item follows
follow_push : (stage : Stage) (items : List Item) (item : Item) → Follow stage items → Allows (stage_after stage items) item → record_fault (stage_after stage items) item ≡ None → Follow stage (items ++ item ∷ [])
follow_push stage [] item follow allowed right = (allowed, right, tt)
follow_push stage (i ∷ items) item follow allowed right = (follow.0, follow.1, follow_push (advance stage i) items item follow.2 allowed right)

-- an item's bytes, and the others
split_at_item : (stage : Stage) (bytes : List ℕ) (item : Item) → StandsAt stage bytes item → bytes ≡ item_bytes stage item ++ drop (item_length stage item) bytes
split_at_item stage bytes item o = sym (take-append-drop (item_length stage item) bytes) ∙ ap (λ (l : List ℕ). l ++ drop (item_length stage item) bytes) o.begins.spelled

-- more bytes are fed
pub fed_more : (bytes more : List ℕ) (items : List Item) (reading : Reading) → HasRead bytes items reading → HasRead (bytes ++ more) items (record reading { waiting = reading.waiting ++ more })
fed_more bytes more items reading has = record {
  read = record {
    spelled = ap (λ (l : List ℕ). l ++ more) has.read.spelled ∙ append_assoc (items_bytes items) reading.waiting more;
    follow = has.read.follow;
  };
  stage = has.stage;
  place = has.place;
  fault = fault_more reading.fault has.fault;
} where
  fault_more : (fault : Option TraceFault) → IfSome fault (λ f. SaysAfter items reading.waiting (Err f)) → IfSome fault (λ f. SaysAfter items (reading.waiting ++ more) (Err f))
  fault_more None h = h
  fault_more (Some f) h = says_more (stage_after Stage.Start items) (length (items_bytes items)) reading.waiting more f h

-- one more item is given
one_more : (bytes : List ℕ) (items : List Item) (place : ℕ) (waiting : List ℕ) (stage : Stage) (item : Item) → HasRead bytes items (record { place = place; waiting = waiting; stage = stage; fault = None }) → StandsAt stage waiting item
    → HasRead bytes (items ++ item ∷ []) (record { place = place + item_length stage item; waiting = drop (item_length stage item) waiting; stage = advance stage item; fault = None })
one_more bytes items place waiting stage item has o =
    let rest = drop (item_length stage item) waiting in
    let allowed : Allows (stage_after Stage.Start items) item = subst (λ (s : Stage). Allows s item) has.stage o.begins.fits in
    let right : record_fault (stage_after Stage.Start items) item ≡ None = subst (λ (s : Stage). record_fault s item ≡ None) has.stage o.right in
    let pushed : items_bytes (items ++ item ∷ []) ≡ items_bytes items ++ item_bytes stage item =
    bytes_from-push Stage.Start items item ∙ ap (λ (s : Stage). items_bytes items ++ item_bytes s item) (sym has.stage) in
    let size : length (items_bytes (items ++ item ∷ [])) ≡ length (items_bytes items) + item_length stage item =
    ap (length {A = ℕ}) pushed ∙ length-append (items_bytes items) (item_bytes stage item) ∙ ap (λ (n : ℕ). length (items_bytes items) + n) (length-map (cells_at stage item) (λ (c : Cell). c.byte)) in
    record {
      read = record {
        spelled = has.read.spelled ∙ ap (λ (l : List ℕ). items_bytes items ++ l) (split_at_item stage waiting item o) ∙ sym (append_assoc (items_bytes items) (item_bytes stage item) rest) ∙ ap (λ (l : List ℕ). l ++ rest) (sym pushed);
        follow = follow_push Stage.Start items item has.read.follow allowed right;
      };
      stage = ap (λ (s : Stage). advance s item) has.stage ∙ sym (stage_after-push Stage.Start items item);
      place = ap (λ (n : ℕ). n + item_length stage item) has.place ∙ sym size;
      fault = tt;
    }

-- after an answer of a reader that met no fault
answered_well : (bytes : List ℕ) (items : List Item) (place : ℕ) (waiting : List ℕ) (stage : Stage) (outcome : Result Item TraceFault)
    → HasRead bytes items (record { place = place; waiting = waiting; stage = stage; fault = None }) → Says stage place waiting outcome
    → HasRead bytes (items_after items outcome) (after_next (record { place = place; waiting = waiting; stage = stage; fault = None }) outcome)
answered_well bytes items place waiting stage (Ok (Item.Header version setup)) has says = one_more bytes items place waiting stage (Item.Header version setup) has (item_stands stage place waiting (Item.Header version setup) says (λ e. cc))
answered_well bytes items place waiting stage (Ok (Item.Name stream name)) has says = one_more bytes items place waiting stage (Item.Name stream name) has (item_stands stage place waiting (Item.Name stream name) says (λ e. cc))
answered_well bytes items place waiting stage (Ok (Item.Opened line value)) has says = one_more bytes items place waiting stage (Item.Opened line value) has (item_stands stage place waiting (Item.Opened line value) says (λ e. cc))
answered_well bytes items place waiting stage (Ok (Item.Event e)) has says = one_more bytes items place waiting stage (Item.Event e) has (item_stands stage place waiting (Item.Event e) says (λ same. cc))
answered_well bytes items place waiting stage (Ok (Item.End count)) has says = one_more bytes items place waiting stage (Item.End count) has (item_stands stage place waiting (Item.End count) says (λ e. cc))
answered_well bytes items place waiting stage (Ok Item.More) has says = record {
  read = has.read;
  stage = has.stage;
  place = add-zero place ∙ has.place;
  fault = tt;
}
answered_well bytes items place waiting stage (Err fault) has says = record {
  read = has.read;
  stage = has.stage;
  place = has.place;
  fault =
      subst (λ (n : ℕ). Says (stage_after Stage.Start items) n waiting (Err fault)) has.place
      (subst (λ (s : Stage). Says s place waiting (Err fault)) has.stage says);
}

-- after an answer
answered : (bytes : List ℕ) (items : List Item) (place : ℕ) (waiting : List ℕ) (stage : Stage) (fault : Option TraceFault) (outcome : Result Item TraceFault)
    → HasRead bytes items (record { place = place; waiting = waiting; stage = stage; fault = fault }) → Repeats fault (Says stage place waiting outcome) outcome
    → HasRead bytes (items_after items outcome) (after_next (record { place = place; waiting = waiting; stage = stage; fault = fault }) outcome)
answered bytes items place waiting stage None outcome has says = answered_well bytes items place waiting stage outcome has says
answered bytes items place waiting stage (Some fault) outcome has repeats =
    subst (λ (o : Result Item TraceFault). HasRead bytes (items_after items o) (after_next (record { place = place; waiting = waiting; stage = stage; fault = Some fault }) o)) (sym repeats) has

pub next_answered : (bytes : List ℕ) (items : List Item) (reading : Reading) (outcome : Result Item TraceFault) → HasRead bytes items reading → Answered reading outcome → HasRead bytes (items_after items outcome) (after_next reading outcome)
next_answered bytes items reading outcome has says = answered bytes items reading.place reading.waiting reading.stage reading.fault outcome has says
