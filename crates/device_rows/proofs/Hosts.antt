-- Tests over all hosts, by one of them, and the task that is found for a line.
use Rattle.std.proofs.Common.{◌≡◌, ℕ, zero, suc, ◌+◌, ◌<◌, ◌≤◌, Bool, true, false, List, [], ◌∷◌, ◌++◌, Option, Some, cond, refl, ap, sym, ◌∙◌, subst, arith}
use Rattle.std.specs.Prelude.{◌==◌, ◌&&◌, ◌||◌}
use Rattle.std.specs.List.{list_all, list_any, range_with_len}
use Rattle.std.specs.Option.{option_map_or}
use Rattle.std.proofs.lemmas.Bool.{eqb-true, false≢true}
use Rattle.std.proofs.lemmas.List.Folds.{list_all-append, list_any-append}
use Rattle.std.proofs.lemmas.Option.{none-some}
use Rattle.cxl_message.specs.declared.opcodes.RspOp.{RspOp}
use Rattle.cxl_message.specs.Lists.{below}
use Rattle.device_record.specs.Answers.{is_answer_to}
use Rattle.device_record.specs.Record.{TaskRecord, task_at}

bool_apart : true ≡ false → ⊥
bool_apart same = false≢true (sym same)

fails_by : (b c : Bool) → (b ≡ true → c ≡ false) → b && c ≡ false
fails_by true c rest = rest refl
fails_by false c rest = refl

passes_by : (b c : Bool) → (b ≡ false → c ≡ true) → b || c ≡ true
passes_by true c rest = refl
passes_by false c rest = rest refl

later : (a k : ℕ) → a ≤ k → (k ≡ a → ⊥) → a + 1 ≤ k
later a k from other = omega (arith, from, other)

not_both : (p : ℕ → Bool) (a k : ℕ) → p k ≡ false → p a ≡ true → k ≡ a → ⊥
not_both p a k fails is same = bool_apart (sym (ap p same ∙ is) ∙ fails)

fails_from : (p : ℕ → Bool) (a n k : ℕ) → a ≤ k → k < a + n → p k ≡ false → list_all p (range_with_len a n) ≡ false
fails_from p a zero k from below fails = absurd (omega (arith, from, below))
fails_from p a (suc n) k from below fails =
    fails_by (p a) (list_all p (range_with_len (a + 1) n)) (λ is. fails_from p (a + 1) n k (later a k from (not_both p a k fails is)) (omega (arith, below)) fails)

-- where one host fails a test, not all pass
pub fails_below : (p : ℕ → Bool) (n k : ℕ) → k < n → p k ≡ false → list_all p (below n) ≡ false
fails_below p n k low fails = fails_from p 0 n k (omega arith) (omega (arith, low)) fails

passes_from : (p : ℕ → Bool) (a n k : ℕ) → a ≤ k → k < a + n → p k ≡ true → list_any p (range_with_len a n) ≡ true
passes_from p a zero k from below passes = absurd (omega (arith, from, below))
passes_from p a (suc n) k from below passes =
    passes_by (p a) (list_any p (range_with_len (a + 1) n)) (λ is. passes_from p (a + 1) n k (later a k from (λ same. bool_apart (sym passes ∙ ap p same ∙ is))) (omega (arith, below)) passes)

-- where one host passes a test, some pass
pub passes_below : (p : ℕ → Bool) (n k : ℕ) → k < n → p k ≡ true → list_any p (below n) ≡ true
passes_below p n k low passes = passes_from p 0 n k (omega arith) (omega (arith, low)) passes

inner : (x y : TaskRecord) → Some x ≡ Some y → x ≡ y
inner x y same = cc

found_by : (a : ℕ) (t x : TaskRecord) (xs : List TaskRecord) (b : Bool) → (x.first == a) ≡ b → cond b (Some x) (task_at a xs) ≡ Some t → (task_at a xs ≡ Some t → t.first ≡ a) → t.first ≡ a
found_by a t x xs true is found rest = subst (λ (y : TaskRecord). y.first ≡ a) (inner x t found) (eqb-true x.first a is)
found_by a t x xs false is found rest = rest found

-- the task that is found for a line begins with it
pub found_first : (a : ℕ) (t : TaskRecord) (xs : List TaskRecord) → task_at a xs ≡ Some t → t.first ≡ a
found_first a t [] found = absurd (none-some t found)
found_first a t (x ∷ xs) found = found_by a t x xs (x.first == a) refl found (found_first a t xs)

-- an answer for a line of the task that is found
pub answered_of : (op : RspOp) (h low a : ℕ) (tasks : List TaskRecord) (t : TaskRecord) → Some t ≡ task_at a tasks → is_answer_to op h (t.first + low) t ≡ option_map_or (is_answer_to op h (a + low)) (task_at a tasks) false
answered_of op h low a tasks t found =
    ap (λ (n : ℕ). is_answer_to op h (n + low) t) (found_first a t tasks (sym found)) ∙ ap (λ (o : Option TaskRecord). option_map_or (is_answer_to op h (a + low)) o false) found

range_more : (a n : ℕ) → range_with_len a (suc n) ≡ range_with_len a n ++ (a + n) ∷ []
range_more a zero = let e : a ≡ a + 0 = omega arith in ap (λ k. k ∷ []) e
range_more a (suc n) =
    let e : (a + 1) + n ≡ a + suc n = omega arith in
    ap (λ l. a ∷ l) (range_more (a + 1) n ∙ ap (λ k. range_with_len (a + 1) n ++ k ∷ []) e)

below_one_more : (n : ℕ) → below (n + 1) ≡ below n ++ n ∷ []
below_one_more n =
    let e : n + 1 ≡ suc n = omega arith in
    let z : 0 + n ≡ n = omega arith in
    ap below e ∙ range_more 0 n ∙ ap (λ k. below n ++ k ∷ []) z

-- one host more passes a test that all before it pass
pub all_more : (p : ℕ → Bool) (n : ℕ) → list_all p (below n) ≡ true → p n ≡ true → list_all p (below (n + 1)) ≡ true
all_more p n before here = ap (list_all p) (below_one_more n) ∙ list_all-append p (below n) (n ∷ []) ∙ (λ i. before i && (here i && true))

-- one host more fails a test that none before it passes
pub none_more : (p : ℕ → Bool) (n : ℕ) → list_any p (below n) ≡ false → p n ≡ false → list_any p (below (n + 1)) ≡ false
none_more p n before here = ap (list_any p) (below_one_more n) ∙ list_any-append p (below n) (n ∷ []) ∙ (λ i. before i || (here i || false))
