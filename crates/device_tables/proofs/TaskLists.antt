-- Tasks by ascending first line: the one with a first line is changed in its place.
use Rattle.std.proofs.Common.{◌≡◌, ℕ, zero, suc, ◌+◌, ◌<◌, ◌≤◌, Bool, true, false, cond, List, [], ◌∷◌, length, map, Option, Some, None, refl, ap, sym, ◌∙◌, subst, arith}
use Rattle.std.specs.Prelude.{not, remove, option_map, position, slice_get, slice_index_or, slice_set, ◌==◌}
use Rattle.std.proofs.lemmas.Bool.{eqb-true, eqb-false, false≢true}
use Rattle.std.specs.List.{position_or_len}
use Rattle.std.proofs.lemmas.List.Quantifiers.{position-Some}
use Rattle.device_record.specs.Record.{TaskRecord}
use Rattle.device_record.specs.TaskChanges.{tasks_without}
use Rattle.device_tables.specs.Tasks.{TaskList}
use Rattle.device_tables.proofs.Places.{passed_places}
use Rattle.device_record.specs.Steady.{AscendFrom}

-- a change of the task with first line a
abbrev pub changed_first : ℕ → (TaskRecord → TaskRecord) → TaskRecord → TaskRecord
changed_first a f t = cond (t.first == a) (f t) t

not_below : (a : ℕ) (t : TaskRecord) → a < t.first → (t.first == a) ≡ false
not_below a t above = by (t.first == a) refl where
  by : (b : Bool) → (t.first == a) ≡ b → b ≡ false
  by true is = let same = eqb-true t.first a is in absurd (omega arith)
  by false is = refl

-- those above a stay
above_stay : (a : ℕ) (f : TaskRecord → TaskRecord) (n : ℕ) (ts : List TaskRecord) → a < n → AscendFrom n ts → map (changed_first a f) ts ≡ ts
above_stay a f n [] above all = refl
above_stay a f n (t ∷ ts) above all =
    let low : n ≤ t.first = all.0 in
    let over : a < t.first = omega arith in
    let more : a < suc t.first = omega arith in
    λ i. cond (not_below a t over i) (f t) t ∷ above_stay a f (suc t.first) ts more all.1 i

-- the first one with that line is changed in its place
pub changed_at_place :
    (a : ℕ) (f : TaskRecord → TaskRecord) (n : ℕ) (ts : List TaskRecord) (i : ℕ) (d : TaskRecord) → AscendFrom n ts → i < length ts → ((slice_index_or ts i d).first == a) ≡ true
    → ((k : ℕ) → k < i → ((slice_index_or ts k d).first == a) ≡ false) → map (changed_first a f) ts ≡ slice_set ts i (f (slice_index_or ts i d))
changed_at_place a f n [] i d all low at before = absurd (omega arith)
changed_at_place a f n (t ∷ ts) zero d all low at before =
    let same = eqb-true t.first a at in
    let more : a < suc t.first = omega arith in
    λ i. cond (at i) (f t) t ∷ above_stay a f (suc t.first) ts more all.1 i
changed_at_place a f n (t ∷ ts) (suc i) d all low at before =
    let less : i < length ts = omega arith in
    let first : 0 < suc i = omega arith in
    λ j. cond (before 0 first j) (f t) t ∷ changed_at_place a f (suc t.first) ts i d all.1 less at (λ k under. let over : suc k < suc i = omega arith in before (suc k) over) j

none_step : (b : Bool) (x y : TaskRecord) (xs r : List TaskRecord) (n : ℕ) → (length xs ≤ n → r ≡ xs) → length (x ∷ xs) ≤ cond (not b) (1 + n) 0 → cond b y x ∷ r ≡ x ∷ xs
none_step true x y xs r n ih h = absurd (omega arith)
none_step false x y xs r n ih h = let low : length xs ≤ n = omega arith in ap (λ l. x ∷ l) (ih low)

none_changed : (a : ℕ) (f : TaskRecord → TaskRecord) (ts : List TaskRecord) → length ts ≤ position_or_len (λ (t : TaskRecord). t.first == a) ts → map (changed_first a f) ts ≡ ts
none_changed a f [] h = refl
none_changed a f (t ∷ ts) h = none_step (t.first == a) t (f t) ts (map (changed_first a f) ts) (position_or_len (λ (u : TaskRecord). u.first == a) ts) (none_changed a f ts) h

-- where none has that line all stay
pub changed_nowhere : (a : ℕ) (f : TaskRecord → TaskRecord) (ts : List TaskRecord) → position (λ (t : TaskRecord). t.first == a) ts ≡ None → ts ≡ map (changed_first a f) ts
changed_nowhere a f ts none = let past = passed_places (λ (t : TaskRecord). t.first == a) ts none in let low : length ts ≤ position_or_len (λ (t : TaskRecord). t.first == a) ts = omega arith in sym (none_changed a f ts low)

-- where one was found it is changed in its place
pub changed_found : (a : ℕ) (f : TaskRecord → TaskRecord) (ts : List TaskRecord) (i : ℕ) (d : TaskRecord) → AscendFrom 0 ts → position (λ (t : TaskRecord). t.first == a) ts ≡ Some i
    → slice_set ts i (f (slice_index_or ts i d)) ≡ map (changed_first a f) ts
changed_found a f ts i d all found =
    let at = position-Some (λ (t : TaskRecord). t.first == a) ts i d found in
    sym (changed_at_place a f 0 ts i d all at.0 at.1 at.2)

-- the place that was found is one
pub found_low : (a : ℕ) (ts : List TaskRecord) (i : ℕ) (d : TaskRecord) → position (λ (t : TaskRecord). t.first == a) ts ≡ Some i → (i < length ts) × ((slice_index_or ts i d).first ≡ a)
found_low a ts i d found = let at = position-Some (λ (t : TaskRecord). t.first == a) ts i d found in (at.0, eqb-true _ a at.1)

-- ---- a task list

-- the list with that task changed
pub list_changed :
    (items : List TaskRecord) (room : ℕ) (now : TaskList) (a : ℕ) (f : TaskRecord → TaskRecord) (i : ℕ) (d x : TaskRecord) → record { tasks = items; room = room } ≡ now → AscendFrom 0 now.tasks
    → position (λ (t : TaskRecord). t.first == a) items ≡ Some i → d ≡ slice_index_or items i d → x ≡ f d
    → ◌≡◌ {A = TaskList} (record { tasks = slice_set items i x; room = room }) (record { tasks = map (changed_first a f) now.tasks; room = now.room })
list_changed items room now a f i d x view all found at new =
    let here : AscendFrom 0 items = subst (λ (l : TaskList). AscendFrom 0 l.tasks) (sym view) all in
    subst (λ (l : TaskList). ◌≡◌ {A = TaskList} (record { tasks = slice_set items i x; room = room }) (record { tasks = map (changed_first a f) l.tasks; room = l.room })) view
    (ap {B = TaskList} (λ (ts : List TaskRecord). record { tasks = ts; room = room }) (ap (slice_set items i) (new ∙ ap f at) ∙ changed_found a f items i d here found))

-- where it has none it stays
pub list_unchanged : (items : List TaskRecord) (room : ℕ) (now : TaskList) (a : ℕ) (f : TaskRecord → TaskRecord) → record { tasks = items; room = room } ≡ now → position (λ (t : TaskRecord). t.first == a) items ≡ None
    → now ≡ record { tasks = map (changed_first a f) now.tasks; room = now.room }
list_unchanged items room now a f view none =
    subst (λ (l : TaskList). l ≡ record { tasks = map (changed_first a f) l.tasks; room = l.room }) view (ap {B = TaskList} (λ (ts : List TaskRecord). record { tasks = ts; room = room }) (changed_nowhere a f items none))

above_kept : (a n : ℕ) (ts : List TaskRecord) → a < n → AscendFrom n ts → tasks_without a ts ≡ ts
above_kept a n [] above all = refl
above_kept a n (t ∷ ts) above all =
    let low : n ≤ t.first = all.0 in
    let over : a < t.first = omega arith in
    let more : a < suc t.first = omega arith in
    ap (λ (b : Bool). cond (not b) (t ∷ tasks_without a ts) (tasks_without a ts)) (not_below a t over) ∙ ap (λ l. t ∷ l) (above_kept a (suc t.first) ts more all.1)

removed_at_place : (a n : ℕ) (ts : List TaskRecord) (i : ℕ) (d : TaskRecord) → AscendFrom n ts → i < length ts → ((slice_index_or ts i d).first == a) ≡ true
    → ((k : ℕ) → k < i → ((slice_index_or ts k d).first == a) ≡ false) → remove ts i ≡ tasks_without a ts
removed_at_place a n [] i d all low at before = absurd (omega arith)
removed_at_place a n (t ∷ ts) zero d all low at before =
    let same = eqb-true t.first a at in
    let more : a < suc t.first = omega arith in
    sym (ap (λ (b : Bool). cond (not b) (t ∷ tasks_without a ts) (tasks_without a ts)) at ∙ above_kept a (suc t.first) ts more all.1)
removed_at_place a n (t ∷ ts) (suc i) d all low at before =
    let less : i < length ts = omega arith in
    let first : 0 < suc i = omega arith in
    ap (λ l. t ∷ l) (removed_at_place a (suc t.first) ts i d all.1 less at (λ k under. let over : suc k < suc i = omega arith in before (suc k) over))
    ∙ sym (ap (λ (b : Bool). cond (not b) (t ∷ tasks_without a ts) (tasks_without a ts)) (before 0 first))

gone_step : (b : Bool) (x : TaskRecord) (xs r : List TaskRecord) (n : ℕ) → (length xs ≤ n → r ≡ xs) → length (x ∷ xs) ≤ cond (not b) (1 + n) 0 → cond (not b) (x ∷ r) r ≡ x ∷ xs
gone_step true x xs r n ih h = absurd (omega arith)
gone_step false x xs r n ih h = let low : length xs ≤ n = omega arith in ap (λ l. x ∷ l) (ih low)

none_gone : (a : ℕ) (ts : List TaskRecord) → length ts ≤ position_or_len (λ (t : TaskRecord). t.first == a) ts → tasks_without a ts ≡ ts
none_gone a [] h = refl
none_gone a (t ∷ ts) h = gone_step (t.first == a) t ts (tasks_without a ts) (position_or_len (λ (u : TaskRecord). u.first == a) ts) (none_gone a ts) h

-- the tasks without the one that was found
pub removed_found : (a : ℕ) (ts : List TaskRecord) (i : ℕ) (d : TaskRecord) → AscendFrom 0 ts → position (λ (t : TaskRecord). t.first == a) ts ≡ Some i → remove ts i ≡ tasks_without a ts
removed_found a ts i d all found = let at = position-Some (λ (t : TaskRecord). t.first == a) ts i d found in removed_at_place a 0 ts i d all at.0 at.1 at.2

pub removed_nowhere : (a : ℕ) (ts : List TaskRecord) → position (λ (t : TaskRecord). t.first == a) ts ≡ None → ts ≡ tasks_without a ts
removed_nowhere a ts none = let past = passed_places (λ (t : TaskRecord). t.first == a) ts none in let low : length ts ≤ position_or_len (λ (t : TaskRecord). t.first == a) ts = omega arith in sym (none_gone a ts low)
