-- Pairs whose lines ascend: what a search for a line finds, and what stays so when a pair is added.
use Rattle.std.proofs.Common.{◌≡◌, ℕ, zero, suc, ◌+◌, ◌-◌, ◌<◌, ◌≤◌, Bool, true, false, IsTrue, List, [], ◌∷◌, ◌++◌, length, Some, None, cond, find, get_or, refl, sym, ◌∙◌, ap, subst, arith}
use Rattle.std.specs.Prelude.{◌==◌, nat_lt, slice_get}
use Rattle.std.specs.Option.{option_map_or}
use Rattle.std.specs.Ordering.{nat_cmp, ordering_index}
use Rattle.std.specs.declared.cmp.Ordering.{Ordering}
use Rattle.std.proofs.lemmas.Bool.{and_parts, and_from, leb-true, le-leb, ltb-true, eq-eqb, ne_eqb, not_from_false, cond-true, cond-false}
use Rattle.std.proofs.lemmas.Bool.Decides.{nat_tests}
use Rattle.std.proofs.lemmas.Cmp.{ranked}
use Rattle.std.proofs.lemmas.List.Folds.{list_all-append}
use Rattle.std.proofs.lemmas.Option.{slice_get-get_or}
use Rattle.cxl_message.specs.declared.identifiers.Line.{Line}
use Rattle.cxl_message.specs.declared.identifiers.Bytes64.{Bytes64}
use Rattle.cxl_message.specs.Codes.{bytes_eq}
use Rattle.cxl_message.specs.Opening.{IsOpening, ascends_from, is_after_last, zero_bytes}

-- each line is at least the bound
pub line-from : (least : ℕ) (pairs : List (Line × Bytes64)) → IsTrue (ascends_from least pairs) → (k : ℕ) (d : Line × Bytes64) → k < length pairs → least ≤ (get_or pairs k d).0.0
line-from least [] h k d below = omega arith
line-from least (p ∷ ps) h zero d below = leb-true least p.0.0 (and_parts _ _ h).0
line-from least (p ∷ ps) h (suc k) d below =
    let first = leb-true least p.0.0 (and_parts _ _ h).0 in
    let later = line-from (p.0.0 + 1) ps (and_parts _ _ h).1 k d (omega arith) in
    omega arith

-- of two places, the later one has the greater line
pub lines_rise : (least : ℕ) (pairs : List (Line × Bytes64)) → IsTrue (ascends_from least pairs) → (i j : ℕ) (d : Line × Bytes64) → i ≤ j → j < length pairs → (get_or pairs i d).0.0 ≤ (get_or pairs j d).0.0
lines_rise least [] h i j d le below = omega arith
lines_rise least (p ∷ ps) h zero zero d le below = omega arith
lines_rise least (p ∷ ps) h zero (suc j) d le below = let later = line-from (p.0.0 + 1) ps (and_parts _ _ h).1 j d (omega arith) in omega arith
lines_rise least (p ∷ ps) h (suc i) zero d le below = absurd (omega arith)
lines_rise least (p ∷ ps) h (suc i) (suc j) d le below = lines_rise (p.0.0 + 1) ps (and_parts _ _ h).1 i j d (omega arith) (omega arith)

-- the pair with a line is found, wherever it stands
pub find-there : (least a : ℕ) (pairs : List (Line × Bytes64)) → IsTrue (ascends_from least pairs) → (k : ℕ) (d : Line × Bytes64) → k < length pairs → (get_or pairs k d).0.0 ≡ a → find (λ p. p.0.0 == a) pairs ≡ Some (get_or pairs k d)
find-there least a [] h k d below is = absurd (omega arith)
find-there least a (p ∷ ps) h zero d below is = cond-true (p.0.0 == a) _ _ (eq-eqb p.0.0 a is)
find-there least a (p ∷ ps) h (suc k) d below is =
    let later = line-from (p.0.0 + 1) ps (and_parts _ _ h).1 k d (omega arith) in
    cond-false (p.0.0 == a) _ _ (ne_eqb p.0.0 a (λ e. omega arith)) ∙ find-there (p.0.0 + 1) a ps (and_parts _ _ h).1 k d (omega arith) is

-- nothing is found where no pair has the line
pub find-none : (a : ℕ) (pairs : List (Line × Bytes64)) → ((k : ℕ) (d : Line × Bytes64) → k < length pairs → (get_or pairs k d).0.0 ≡ a → ⊥) → find (λ p. p.0.0 == a) pairs ≡ None
find-none a [] h = refl
find-none a (p ∷ ps) h =
    cond-false (p.0.0 == a) _ _ (ne_eqb p.0.0 a (h 0 p (omega arith))) ∙ find-none a ps (λ k d below. h (suc k) d (omega arith))

-- a number that compares less, or greater, isn't the same
pub not_less : (x a : ℕ) → nat_cmp x a ≡ Ordering.Less → x ≡ a → ⊥
not_less x a h same = let less : x < a = ranked x a Ordering.Less (sym h) in omega arith

pub not_greater : (x a : ℕ) → nat_cmp x a ≡ Ordering.Greater → x ≡ a → ⊥
not_greater x a h same = let greater : a < x = ranked x a Ordering.Greater (sym h) in omega arith

-- a greater number compares no lower
pub index_rises : (x y a : ℕ) → x ≤ y → ordering_index (nat_cmp x a) ≤ ordering_index (nat_cmp y a)
index_rises x y a le = grind (arith, nat_tests)

-- pairs that ascend go on ascending where a line greater than the last is added
pub ascends-added : (least : ℕ) (pairs : List (Line × Bytes64)) (p : Line × Bytes64) → IsTrue (ascends_from least pairs) → least ≤ p.0.0 → ((k : ℕ) → suc k ≡ length pairs → (get_or pairs k p).0.0 < p.0.0) → IsTrue (ascends_from least (pairs ++ p ∷ []))
ascends-added least [] p h from last = and_from _ _ (le-leb least p.0.0 from) refl
ascends-added least (q ∷ []) p h from last = and_from _ _ (and_parts _ _ h).0 (ascends-added (q.0.0 + 1) [] p refl (let l = last 0 refl in omega arith) (λ k e. absurd (omega arith)))
ascends-added least (q ∷ r ∷ rs) p h from last =
    let rest = (and_parts _ _ h).1 in
    let above = line-from (q.0.0 + 1) (r ∷ rs) rest (length rs) p (omega arith) in
    let end = last (suc (length rs)) refl in
    and_from _ _ (and_parts _ _ h).0 (ascends-added (q.0.0 + 1) (r ∷ rs) p rest (omega arith) (λ k e. last (suc k) (ap suc e)))

-- what comes after the last line comes after the one at the last place
after_last_place : (pairs : List (Line × Bytes64)) (p : Line × Bytes64) → is_after_last pairs p.0.0 ≡ true → (k : ℕ) → suc k ≡ length pairs → (get_or pairs k p).0.0 < p.0.0
after_last_place pairs p after k e =
    let last : length pairs - 1 ≡ k = omega arith in
    let there = slice_get-get_or pairs k p (omega arith) in
    ltb-true _ _ (sym (ap (λ found. option_map_or (λ q. nat_lt q.0.0 p.0.0) found true) there) ∙ (ap (λ i. option_map_or (λ q. nat_lt q.0.0 p.0.0) (slice_get pairs i) true) (sym last) ∙ after))

-- an opening stays one where a later line that isn't all zeros is added
pub opening_added : (pairs : List (Line × Bytes64)) (line : Line) (bytes : Bytes64) → IsOpening pairs → is_after_last pairs line.0 ≡ true → bytes_eq bytes zero_bytes ≡ false → IsOpening (pairs ++ (line, bytes) ∷ [])
opening_added pairs line bytes h after other = record {
  ascending = ascends-added 0 pairs (line, bytes) h.ascending (omega arith) (after_last_place pairs (line, bytes) after);
  not_zero = list_all-append _ pairs ((line, bytes) ∷ []) ∙ and_from _ _ h.not_zero (and_from _ _ (not_from_false _ other) refl);
}

-- whether or not there was room for it
pub opening_pushed : (is_pushed : Bool) (pairs new : List (Line × Bytes64)) (line : Line) (bytes : Bytes64) → IsOpening pairs → is_after_last pairs line.0 ≡ true → bytes_eq bytes zero_bytes ≡ false → new ≡ cond is_pushed (pairs ++ (line, bytes) ∷ []) pairs → IsOpening new
opening_pushed true pairs new line bytes h after other e = subst IsOpening (sym e) (opening_added pairs line bytes h after other)
opening_pushed false pairs new line bytes h after other e = subst IsOpening (sym e) h
