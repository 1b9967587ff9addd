-- The lines of the flat memory by number: one is read, one is set, one more is there.
use Rattle.std.proofs.Common.{◌≡◌, ℕ, zero, suc, ◌+◌, ◌<◌, ◌≤◌, true, false, drop, List, [], ◌∷◌, ◌++◌, length, map, Option, Some, refl, ap, sym, subst, ◌∙◌, arith}
use Rattle.std.specs.Prelude.{◌==◌, slice_get, slice_index_or, slice_set, unwrap_or}
use Rattle.std.specs.List.{range_with_len}
use Rattle.std.proofs.lemmas.Option.{slice_get_read}
use Rattle.std.proofs.lemmas.Bool.{cond-false, cond-true, eq-eqb, ne_eqb}
use Rattle.cxl_message.specs.declared.events.Commit.{Commit}
use Rattle.cxl_message.specs.declared.events.Op.{Op}
use Rattle.cxl_message.specs.declared.identifiers.Bytes64.{Bytes64}
use Rattle.cxl_message.specs.declared.identifiers.Line.{Line}
use Rattle.cxl_message.specs.Events.{line_of}
use Rattle.cxl_message.specs.Opening.{bytes_at}
use Rattle.cxl_message.specs.Stores.{line_after}
use Rattle.cxl_message.specs.Lists.{below}
use Rattle.coherence_model.specs.FlatMemory.{commit_is_legal, flat_line}
use Rattle.flat_model.specs.Histories.{first_illegal_from, flat_lines}

get_from : {X : Type 0} (f : ℕ → X) (a n k : ℕ) → k < n → slice_get (map f (range_with_len a n)) k ≡ Some (f (a + k))
get_from f a zero k h = absurd (omega arith)
get_from f a (suc n) zero h = let e : a ≡ a + 0 = omega arith in ap (λ j. Some (f j)) e
get_from f a (suc n) (suc k) h =
    let low : k < n = omega arith in
    let e : (a + 1) + k ≡ a + suc k = omega arith in
    get_from f (a + 1) n k low ∙ ap (λ j. Some (f j)) e

-- a line that exists
pub line_is : (n a : ℕ) (opening : List (Line × Bytes64)) (older : List Commit) → a < n → slice_get (flat_lines n opening older) a ≡ Some (flat_line opening a older)
line_is n a opening older h =
    let e : 0 + a ≡ a = omega arith in
    get_from (λ k. flat_line opening k older) 0 n a h ∙ ap (λ k. Some (flat_line opening k older)) e

same_above : {X : Type 0} (f g : ℕ → X) (a n : ℕ) → ((j : ℕ) → a ≤ j → j < a + n → f j ≡ g j) → map f (range_with_len a n) ≡ map g (range_with_len a n)
same_above f g a zero h = refl
same_above {X} f g a (suc n) h =
    let here : a ≤ a = omega arith in
    let low : a < a + suc n = omega arith in
    let more : (j : ℕ) → a + 1 ≤ j → j < (a + 1) + n → f j ≡ g j = λ j high less. h j (omega arith) (omega arith) in
    λ i. h a here low i ∷ same_above f g (a + 1) n more i

set_from : {X : Type 0} (f g : ℕ → X) (a n k : ℕ) (v : X) → g (a + k) ≡ v → ((j : ℕ) → (j ≡ a + k → ⊥) → f j ≡ g j) → slice_set (map f (range_with_len a n)) k v ≡ map g (range_with_len a n)
set_from f g a zero k v at others = refl
set_from f g a (suc n) zero v at others =
    let e : a + 0 ≡ a = omega arith in
    let rest : (j : ℕ) → a + 1 ≤ j → j < (a + 1) + n → f j ≡ g j = λ j high less. others j (λ same. omega arith) in
    λ i. (sym at ∙ ap g e) i ∷ same_above f g (a + 1) n rest i
set_from f g a (suc n) (suc k) v at others =
    let e : a + suc k ≡ (a + 1) + k = omega arith in
    let other : a ≡ a + suc k → ⊥ = λ same. omega arith in
    let there : g ((a + 1) + k) ≡ v = ap g (sym e) ∙ at in
    let rest : (j : ℕ) → (j ≡ (a + 1) + k → ⊥) → f j ≡ g j = λ j ne. others j (λ same. ne (same ∙ e)) in
    λ i. others a other i ∷ set_from f g (a + 1) n k v there rest i

-- the lines after one more commit: its own is set
pub lines_after : (n : ℕ) (opening : List (Line × Bytes64)) (older : List Commit) (c : Commit) → c.value ≡ line_after c.op (flat_line opening (line_of c.op) older)
    → slice_set (flat_lines n opening older) (line_of c.op) c.value ≡ flat_lines n opening (c ∷ older)
lines_after n opening older c value =
    let k = line_of c.op in
    let f : ℕ → Bytes64 = λ a. flat_line opening a older in
    let g : ℕ → Bytes64 = λ a. flat_line opening a (c ∷ older) in
    let e : 0 + k ≡ k = omega arith in
    let own : g k ≡ c.value = cond-true (k == k) (line_after c.op (f k)) (f k) (eq-eqb k k refl) ∙ sym value in
    set_from f g 0 n k c.value (ap g e ∙ own) (λ j ne. sym (cond-false (k == j) (line_after c.op (f j)) (f j) (ne_eqb k j (λ same. ne (sym same ∙ sym e)))))

range_more : (a n : ℕ) → range_with_len a (suc n) ≡ range_with_len a n ++ (a + n) ∷ []
range_more a zero = let e : a ≡ a + 0 = omega arith in ap (λ k. k ∷ []) e
range_more a (suc n) =
    let e : (a + 1) + n ≡ a + suc n = omega arith in
    ap (λ l. a ∷ l) (range_more (a + 1) n ∙ ap (λ k. range_with_len (a + 1) n ++ k ∷ []) e)

map-append : {X Y : Type 0} (f : X → Y) (xs ys : List X) → map f (xs ++ ys) ≡ map f xs ++ map f ys
map-append f [] ys = refl
map-append f (x ∷ xs) ys = ap (λ l. f x ∷ l) (map-append f xs ys)

-- one more line
pub lines_more : (n : ℕ) (opening : List (Line × Bytes64)) (older : List Commit) → flat_lines (n + 1) opening older ≡ flat_lines n opening older ++ flat_line opening n older ∷ []
lines_more n opening older =
    let f : ℕ → Bytes64 = λ a. flat_line opening a older in
    let e : n + 1 ≡ suc n = omega arith in
    let z : 0 + n ≡ n = omega arith in
    ap (λ m. map f (below m)) e ∙ ap (map f) (range_more 0 n) ∙ map-append f (below n) ((0 + n) ∷ []) ∙ ap (λ k. map f (below n) ++ f k ∷ []) z

-- what is read of a line that exists
pub line_read : (flat items : List Bytes64) (a : ℕ) (x : Bytes64) → flat ≡ items → a < length flat → x ≡ slice_index_or items a x → (opening : List (Line × Bytes64)) (older : List Commit) → flat ≡ flat_lines (length flat) opening older → x ≡ flat_line opening a older
line_read flat items a x view low read opening older is =
    let there : slice_get flat a ≡ Some x = ap (λ l. slice_get l a) view ∙ slice_get_read items (length items) a x refl (subst (λ l. a < length l) view low) read in
    let line = ap (λ l. slice_get l a) is ∙ line_is (length flat) a opening older low in
    ap (λ o. unwrap_or o x) (sym there ∙ line)

-- and its bytes are the opening's
pub lines_opened : (n : ℕ) (opening : List (Line × Bytes64)) (items new : List Bytes64) (b : Bytes64) → items ≡ flat_lines n opening [] → new ≡ items ++ b ∷ [] → b ≡ bytes_at opening n → new ≡ flat_lines (n + 1) opening []
lines_opened n opening items new b is pushed bytes =
    pushed ∙ ap (λ l. l ++ b ∷ []) is ∙ ap (λ x. flat_lines n opening [] ++ x ∷ []) bytes ∙ sym (lines_more n opening [])

len_from : {X : Type 0} (f : ℕ → X) (a n : ℕ) → length (map f (range_with_len a n)) ≡ n
len_from f a zero = refl
len_from f a (suc n) = ap suc (len_from f (a + 1) n)

-- there are so many lines
pub lines_len : (n : ℕ) (opening : List (Line × Bytes64)) (older : List Commit) → length (flat_lines n opening older) ≡ n
lines_len n opening older = len_from (λ a. flat_line opening a older) 0 n

-- the lines after an operation, by the line that was set
pub after_set : (items flat : List Bytes64) (a : ℕ) (v : Bytes64) (opening : List (Line × Bytes64)) (older : List Commit) (stream index : ℕ) (op : Op) → items ≡ flat → flat ≡ flat_lines (length flat) opening older
    → a ≡ line_of op → v ≡ line_after op (flat_line opening (line_of op) older)
    → slice_set items a v ≡ flat_lines (length flat) opening (record { stream = stream; index = index; op = op; value = v } ∷ older)
after_set items flat a v opening older stream index op view is line value =
    let commit : Commit = record { stream = stream; index = index; op = op; value = v } in
    ap (λ l. slice_set l a v) (view ∙ is) ∙ ap (λ k. slice_set (flat_lines (length flat) opening older) k v) line ∙ lines_after (length flat) opening older commit value

-- the rest of a history is judged after one more legal commit
pub judged_on : (n place : ℕ) (opening : List (Line × Bytes64)) (older cs : List Commit) (c : Commit) (all : Option ℕ) → drop place cs ≡ c ∷ drop (place + 1) cs → commit_is_legal n opening c older ≡ true
    → all ≡ first_illegal_from n opening older place (drop place cs) → all ≡ first_illegal_from n opening (c ∷ older) (place + 1) (drop (place + 1) cs)
judged_on n place opening older cs c all next legal is =
    is ∙ ap (first_illegal_from n opening older place) next ∙ cond-true (commit_is_legal n opening c older) _ _ legal

-- and the first that isn't legal is named
pub judged_out : (n place : ℕ) (opening : List (Line × Bytes64)) (older cs : List Commit) (c : Commit) (all : Option ℕ) → drop place cs ≡ c ∷ drop (place + 1) cs → commit_is_legal n opening c older ≡ false
    → all ≡ first_illegal_from n opening older place (drop place cs) → Some place ≡ all
judged_out n place opening older cs c all next wrong is =
    sym (is ∙ ap (first_illegal_from n opening older place) next ∙ cond-false (commit_is_legal n opening c older) _ _ wrong)

-- a flat memory of so many lines
pub of_len : (n : ℕ) (flat : List Bytes64) (opening : List (Line × Bytes64)) (older : List Commit) → flat ≡ flat_lines n opening older → length flat ≡ n
of_len n flat opening older is = ap length is ∙ lines_len n opening older

pub of_own_len : (n : ℕ) (flat : List Bytes64) (opening : List (Line × Bytes64)) (older : List Commit) → flat ≡ flat_lines n opening older → flat ≡ flat_lines (length flat) opening older
of_own_len n flat opening older is = is ∙ ap (λ k. flat_lines k opening older) (sym (of_len n flat opening older is))
