-- A walk over the items of some bytes.
use Rattle.std.proofs.Common.{◌≡◌, ℕ, ◌+◌, ◌-◌, ◌<◌, ◌≤◌, List, [], ◌∷◌, ◌++◌, length, take, drop, Option, Some, None, IfSome, Result, Ok, Err, refl, sym, ap, subst, ◌∙◌, append_assoc, append-nil, take-append-drop, length-append, length-drop, arith, inl}
use Rattle.std.specs.Prelude.{IfErr, IfOk}
use Rattle.std.proofs.Math.Seq.{take-length}
use Rattle.std.proofs.lemmas.List.{take_all}
use Rattle.trace_stream.specs.declared.items.Item.{Item}
use Rattle.trace_stream.specs.declared.items.TraceFault.{TraceFault}
use Rattle.trace_stream.specs.declared.stages.Stage.{Stage}
use Rattle.trace_stream.specs.Readings.{IsDrained, IsGiven, Reading, fed_count, finish_of}
use Rattle.trace_stream.specs.Runs.{HasFault, HasRead, IsTraceOf, SaysAfter, items_after, items_bytes, stage_after}
use Rattle.trace_stream.proofs.Extending.{says_more}
use Rattle.trace_migration.specs.Walks.{IsAt, IsOver, Walking, left}

-- the bytes that were fed and those that are left are all
pub fed_fits : (bytes : List ℕ) (items : List Item) (walking : Walking) → IsAt bytes items walking → fed_count walking.reading + length walking.rest ≡ length bytes
fed_fits bytes items walking at =
    let all = ap (length {A = ℕ}) at.split in
    let parts = length-append at.read walking.rest in
    let read = ap (length {A = ℕ}) at.has.read.spelled in
    let waits = length-append (items_bytes items) walking.reading.waiting in
    let place = at.has.place in
    omega (arith, all, parts, read, waits, place)

-- an item that was read stands behind the others
behind : (items : List Item) (item : Item) → (item ≡ Item.More → ⊥) → items_after items (Ok item) ≡ items ++ item ∷ []
behind items (Item.Header version setup) some = refl
behind items (Item.Name stream name) some = refl
behind items (Item.Opened line bytes) some = refl
behind items (Item.Event e) some = refl
behind items (Item.End count) some = refl
behind items Item.More some = absurd (some refl)

-- a reader that was given so many bytes has read on by an outcome
abbrev pub ReadsOn : Walking → ℕ → Result Item TraceFault → Reading → Type 0
ReadsOn old count outcome new = (read : List ℕ) (items : List Item) → HasRead read items old.reading → HasRead (read ++ take count old.rest) (items_after items outcome) new

-- the bytes behind so many, as a part that is taken
pub part_is : (count : ℕ) (bytes : List ℕ) → take (length bytes - count) (drop count bytes) ≡ drop count bytes
part_is count bytes = let size : length (drop count bytes) ≡ length bytes - count = length-drop count bytes in take_all (length bytes - count) (drop count bytes) (omega (arith, size))

-- the walk with one more item
pub goes_on : (old new : Walking) (count : ℕ) (item : Item) → (item ≡ Item.More → ⊥) → ReadsOn old count (Ok item) new.reading → new.rest ≡ drop count old.rest → (bytes : List ℕ) (items : List Item) → IsAt bytes items old
    → IsAt bytes (items ++ item ∷ []) new
goes_on old new count item some on left bytes items at = record {
  read = at.read ++ take count old.rest;
  split =
      at.split ∙ ap (λ (l : List ℕ). at.read ++ l) (sym (take-append-drop count old.rest)) ∙ sym (append_assoc at.read (take count old.rest) (drop count old.rest))
      ∙ ap (λ (l : List ℕ). (at.read ++ take count old.rest) ++ l) (sym left);
  has = subst (λ (l : List Item). HasRead (at.read ++ take count old.rest) l new.reading) (behind items item some) (on at.read items at.has);
}

-- an item that is one is given
given : (item : Item) → (item ≡ Item.More → ⊥) → IsGiven (Ok item)
given (Item.Header version setup) some = tt
given (Item.Name stream name) some = tt
given (Item.Opened line bytes) some = tt
given (Item.Event e) some = tt
given (Item.End count) some = tt
given Item.More some = some refl

-- fewer bytes are left
pub fewer_left : (old new : Walking) (count : ℕ) (item : Item) → (item ≡ Item.More → ⊥) → (IsGiven (Ok item) → length new.reading.waiting < length old.reading.waiting + count) → count ≤ length old.rest → new.rest ≡ drop count old.rest
    → left new < left old
fewer_left old new count item some fewer within rest =
    let waits = fewer (given item some) in
    let size = ap (length {A = ℕ}) rest in
    let dropped : length (drop count old.rest) ≡ length old.rest - count = length-drop count old.rest in
    omega (arith, waits, size, dropped, within)

-- the walk whose bytes are all read
pub ends : (old new : Walking) (count : ℕ) → ReadsOn old count (Ok Item.More) new.reading → count ≡ length old.rest → IsDrained new.reading → (bytes : List ℕ) (items : List Item) → IsAt bytes items old → IsOver bytes items new
ends old new count on all drained bytes items at = record {
  read = at.read ++ take count old.rest;
  lost = [];
  split = at.split ∙ ap (λ (l : List ℕ). at.read ++ l) (sym (take-length old.rest) ∙ ap (λ (n : ℕ). take n old.rest) (sym all)) ∙ sym (append-nil (at.read ++ take count old.rest));
  has = on at.read items at.has;
  drained = drained;
  all = λ none. refl;
}

-- the walk that met a fault
pub fails : (old new : Walking) (count : ℕ) (fault : TraceFault) → ReadsOn old count (Err fault) new.reading → new.reading.fault ≡ Some fault → IsDrained new.reading → (bytes : List ℕ) (items : List Item) → IsAt bytes items old → IsOver bytes items new
fails old new count fault on met drained bytes items at = record {
  read = at.read ++ take count old.rest;
  lost = drop count old.rest;
  split = at.split ∙ ap (λ (l : List ℕ). at.read ++ l) (sym (take-append-drop count old.rest)) ∙ sym (append_assoc at.read (take count old.rest) (drop count old.rest));
  has = on at.read items at.has;
  drained = drained;
  all = λ none. let e : Some fault ≡ None = sym met ∙ none in absurd cc;
}

-- ---- the end

-- where no fault was met, all was read
all_read : (bytes : List ℕ) (items : List Item) (walking : Walking) → (o : IsOver bytes items walking) → walking.reading.fault ≡ None → o.read ≡ bytes
all_read bytes items walking o none = sym (o.split ∙ ap (λ (l : List ℕ). o.read ++ l) (o.all none) ∙ append-nil o.read)

-- a fault that was met is that of all bytes
met_fault : (bytes read lost : List ℕ) (items : List Item) (reading : Reading) (fault : TraceFault) → bytes ≡ read ++ lost → HasRead read items reading → SaysAfter items reading.waiting (Err fault) → HasFault bytes fault
met_fault bytes read lost items reading fault split has says = record {
  items = items;
  rest = reading.waiting ++ lost;
  read = record {
    spelled = split ∙ ap (λ (l : List ℕ). l ++ lost) has.read.spelled ∙ append_assoc (items_bytes items) reading.waiting lost;
    follow = has.read.follow;
  };
  fails = inl (says_more (stage_after Stage.Start items) (length (items_bytes items)) reading.waiting lost fault says);
}

finish_met : (reading : Reading) (fault : TraceFault) (result : Result ℕ TraceFault) → reading.fault ≡ Some fault → result ≡ finish_of reading → result ≡ Err fault
finish_met reading fault result met is = is ∙ ap (λ (o : Option TraceFault). finish_of (record reading { fault = o })) met

whole_by : (met : Option TraceFault) (bytes : List ℕ) (items : List Item) (walking : Walking) (result : Result ℕ TraceFault) → walking.reading.fault ≡ met → (o : IsOver bytes items walking) → result ≡ finish_of walking.reading
    → IfOk result (λ count. IsTraceOf o.read items count) → IfOk result (λ count. IsTraceOf bytes items count)
whole_by None bytes items walking result met o is whole = subst (λ (l : List ℕ). IfOk result (λ count. IsTraceOf l items count)) (all_read bytes items walking o met) whole
whole_by (Some fault) bytes items walking result met o is whole =
    subst (λ (r : Result ℕ TraceFault). IfOk r (λ count. IsTraceOf bytes items count)) (sym (finish_met walking.reading fault result met is)) tt

pub finish_whole : (bytes : List ℕ) (items : List Item) (walking : Walking) (result : Result ℕ TraceFault) → (o : IsOver bytes items walking) → result ≡ finish_of walking.reading
    → ((read : List ℕ) (own : List Item) → HasRead read own walking.reading → IfOk result (λ count. IsTraceOf read own count)) → IfOk result (λ count. IsTraceOf bytes items count)
finish_whole bytes items walking result o is whole = whole_by walking.reading.fault bytes items walking result refl o is (whole o.read items o.has)

fault_by : (met : Option TraceFault) (bytes : List ℕ) (items : List Item) (walking : Walking) (result : Result ℕ TraceFault) → walking.reading.fault ≡ met → IfSome met (λ f. SaysAfter items walking.reading.waiting (Err f)) → (o : IsOver bytes items walking)
    → result ≡ finish_of walking.reading → IfErr result (λ fault. HasFault o.read fault) → IfErr result (λ fault. HasFault bytes fault)
fault_by None bytes items walking result met says o is fault = subst (λ (l : List ℕ). IfErr result (λ f. HasFault l f)) (all_read bytes items walking o met) fault
fault_by (Some own) bytes items walking result met says o is fault =
    subst (λ (r : Result ℕ TraceFault). IfErr r (λ f. HasFault bytes f)) (sym (finish_met walking.reading own result met is)) (met_fault bytes o.read o.lost items walking.reading own o.split o.has says)

pub finish_fault : (bytes : List ℕ) (items : List Item) (walking : Walking) (result : Result ℕ TraceFault) → (o : IsOver bytes items walking) → result ≡ finish_of walking.reading
    → ((read : List ℕ) (own : List Item) → HasRead read own walking.reading → IfErr result (λ fault. HasFault read fault)) → IfErr result (λ fault. HasFault bytes fault)
finish_fault bytes items walking result o is fault = fault_by walking.reading.fault bytes items walking result refl o.has.fault o is (fault o.read items o.has)
