-- Lists of lists by number, joined: how long they are, and the member of a number.
use Rattle.std.proofs.Common.{◌≡◌, ℕ, zero, suc, ◌+◌, ◌-◌, ◌<◌, ◌≤◌, List, [], ◌++◌, length, ap, sym, ◌∙◌, subst, arith}
use Rattle.std.specs.Prelude.{flat_map, slice_get}
use Rattle.std.proofs.lemmas.List.{flat_map_more, length-append}
use Rattle.cxl_message.specs.Lists.{below}
use Rattle.link_queues.proofs.Parts.{get_left, get_right}
use Rattle.link_queues.proofs.Tables.{below_one_more}

more : {A : Type 0} (f : ℕ → List A) (h : ℕ) → flat_map f (below (h + 1)) ≡ flat_map f (below h) ++ f h
more f h = ap (flat_map f) (below_one_more h) ∙ sym (flat_map_more f [] (below h) h)

-- one list more
pub more_length : {A : Type 0} (f : ℕ → List A) (h : ℕ) → length (flat_map f (below (h + 1))) ≡ length (flat_map f (below h)) + length (f h)
more_length f h = ap length (more f h) ∙ length-append (flat_map f (below h)) (f h)

grows : {A : Type 0} (f : ℕ → List A) (n k : ℕ) → length (flat_map f (below n)) ≤ length (flat_map f (below (n + k)))
grows f n zero = let e : n + 0 ≡ n = omega arith in subst (λ j. length (flat_map f (below n)) ≤ length (flat_map f (below j))) (sym e) (omega arith)
grows f n (suc k) =
    let e : n + suc k ≡ (n + k) + 1 = omega arith in
    let before = grows f n k in
    let one = more_length f (n + k) in
    subst (λ j. length (flat_map f (below n)) ≤ length (flat_map f (below j))) (sym e) (omega arith)

-- fewer lists are no longer than all
pub within_all : {A : Type 0} (f : ℕ → List A) (h n : ℕ) → h ≤ n → length (flat_map f (below h)) ≤ length (flat_map f (below n))
within_all f h n low = let e : h + (n - h) ≡ n = omega arith in subst (λ j. length (flat_map f (below h)) ≤ length (flat_map f (below j))) e (grows f h (n - h))

front_get : {A : Type 0} (f : ℕ → List A) (n k j : ℕ) → j < length (flat_map f (below n)) → slice_get (flat_map f (below (n + k))) j ≡ slice_get (flat_map f (below n)) j
front_get f n zero j low = let e : n + 0 ≡ n = omega arith in ap (λ i. slice_get (flat_map f (below i)) j) e
front_get f n (suc k) j low =
    let e : n + suc k ≡ (n + k) + 1 = omega arith in
    let grown = grows f n k in
    ap (λ i. slice_get (flat_map f (below i)) j) e ∙ ap (λ l. slice_get l j) (more f (n + k))
    ∙ get_left (flat_map f (below (n + k))) (f (n + k)) j (omega arith) ∙ front_get f n k j low

-- a member of the list of a number stands after those before
pub part_get : {A : Type 0} (f : ℕ → List A) (n h j : ℕ) → h < n → j < length (f h) → slice_get (flat_map f (below n)) (length (flat_map f (below h)) + j) ≡ slice_get (f h) j
part_get f n h j low there =
    let e : n ≡ (h + 1) + (n - (h + 1)) = omega arith in
    let one = more_length f h in
    let less : length (flat_map f (below h)) + j < length (flat_map f (below (h + 1))) = omega arith in
    ap (λ i. slice_get (flat_map f (below i)) (length (flat_map f (below h)) + j)) e ∙ front_get f (h + 1) (n - (h + 1)) (length (flat_map f (below h)) + j) less
    ∙ ap (λ l. slice_get l (length (flat_map f (below h)) + j)) (more f h) ∙ get_right (flat_map f (below h)) (f h) j
