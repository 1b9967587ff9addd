-- The task whose host is asked is the one that is found for its first line.
use Rattle.std.proofs.Common.{◌≡◌, ℕ, suc, ◌<◌, ◌≤◌, Bool, true, false, List, [], ◌∷◌, Option, Some, cond, map, refl, ap, sym, ◌∙◌, arith}
use Rattle.std.specs.Prelude.{◌==◌}
use Rattle.std.specs.Option.{option_map_or}
use Rattle.std.proofs.lemmas.Bool.{eqb-true, ne_eqb}
use Rattle.cxl_message.specs.Spans.{lines_of}
use Rattle.device_record.specs.Record.{TaskRecord, task_at}
use Rattle.device_record.specs.Steady.{AscendFrom}
use Rattle.device_record.specs.Tables.{changed_at}
use Rattle.device_record.specs.TaskChanges.{task_left}
use Rattle.device_tables.specs.Tasks.{task_asked}

abbrev lines_or_none : Option TaskRecord → List ℕ
lines_or_none o = option_map_or (λ (t : TaskRecord). lines_of t.first t.span) o []

past_by : (a : ℕ) (x y : TaskRecord) (b : Bool) → b ≡ false → cond b x y ≡ y
past_by a x y true is = cc
past_by a x y false is = refl

past_left : (a h : ℕ) (change : List ℕ → List ℕ) (n : ℕ) (ts : List TaskRecord) → a < n → AscendFrom n ts → map (task_left a h change) ts ≡ ts
past_left a h change n [] low all = refl
past_left a h change n (t ∷ ts) low all =
    let above : n ≤ t.first = all.0 in
    let more : a < suc t.first = omega arith in
    let other : (t.first == a) ≡ false = ne_eqb t.first a (λ same. omega (arith, same, above, low)) in
    λ i. past_by a (record t { left = changed_at h change t.left }) t (t.first == a) other i ∷ past_left a h change (suc t.first) ts more all.1 i

past_asked : (a h n : ℕ) (ts : List TaskRecord) → a < n → AscendFrom n ts → map (task_asked a h) ts ≡ ts
past_asked a h n [] low all = refl
past_asked a h n (t ∷ ts) low all =
    let above : n ≤ t.first = all.0 in
    let more : a < suc t.first = omega arith in
    let other : (t.first == a) ≡ false = ne_eqb t.first a (λ same. omega (arith, same, above, low)) in
    λ i. past_by a (record t { left = changed_at h (λ old. lines_of t.first t.span) t.left }) t (t.first == a) other i ∷ past_asked a h (suc t.first) ts more all.1 i

asked_by : (a h : ℕ) (t : TaskRecord) (ts : List TaskRecord) (b : Bool) → (t.first == a) ≡ b → AscendFrom (suc t.first) ts
    → map (task_asked a h) ts ≡ map (task_left a h (λ old. lines_or_none (task_at a ts))) ts
    → cond b (record t { left = changed_at h (λ old. lines_of t.first t.span) t.left }) t ∷ map (task_asked a h) ts
    ≡ cond b (record t { left = changed_at h (λ old. lines_or_none (cond b (Some t) (task_at a ts))) t.left }) t ∷ map (task_left a h (λ old. lines_or_none (cond b (Some t) (task_at a ts)))) ts
asked_by a h t ts true is all more =
    let at : t.first ≡ a = eqb-true t.first a is in
    let low : a < suc t.first = omega arith in
    ap {B = List TaskRecord} (λ rest. record t { left = changed_at h (λ old. lines_of t.first t.span) t.left } ∷ rest)
    (past_asked a h (suc t.first) ts low all ∙ sym (past_left a h (λ old. lines_of t.first t.span) (suc t.first) ts low all))
asked_by a h t ts false is all more = ap {B = List TaskRecord} (λ rest. t ∷ rest) more

-- where first lines ascend, the lines of each task of line a are those of the task that is found for it
pub asked_each : (a h n : ℕ) (ts : List TaskRecord) → AscendFrom n ts → map (task_asked a h) ts ≡ map (task_left a h (λ old. lines_or_none (task_at a ts))) ts
asked_each a h n [] all = refl
asked_each a h n (t ∷ ts) all = asked_by a h t ts (t.first == a) refl all.1 (asked_each a h (suc t.first) ts all.1)

inner : (x y : TaskRecord) → Some x ≡ Some y → x ≡ y
inner x y same = cc

found_by : (a : ℕ) (t x : TaskRecord) (xs : List TaskRecord) (b : Bool) → (x.first == a) ≡ b → cond b (Some x) (task_at a xs) ≡ Some t → (task_at a xs ≡ Some t → t.first ≡ a) → t.first ≡ a
found_by a t x xs true is found rest = ap (λ (y : TaskRecord). y.first) (sym (inner x t found)) ∙ eqb-true x.first a is
found_by a t x xs false is found rest = rest found

-- the task that is found for a line begins with it
pub found_first : (a : ℕ) (t : TaskRecord) (xs : List TaskRecord) → task_at a xs ≡ Some t → t.first ≡ a
found_first a t [] found = cc
found_first a t (x ∷ xs) found = found_by a t x xs (x.first == a) refl found (found_first a t xs)
