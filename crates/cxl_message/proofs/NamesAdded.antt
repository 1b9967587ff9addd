-- Names stay names where one of a later stream is added.
use Rattle.std.proofs.Common.{◌≡◌, ℕ, zero, suc, ◌+◌, ◌-◌, ◌<◌, ◌≤◌, Bool, true, false, IsTrue, List, [], ◌∷◌, ◌++◌, length, cond, get_or, refl, sym, ◌∙◌, ap, subst, arith}
use Rattle.std.specs.Prelude.{nat_lt, slice_get}
use Rattle.std.specs.Option.{option_map_or}
use Rattle.std.proofs.lemmas.Bool.{and_parts, and_from, leb-true, le-leb, ltb-true}
use Rattle.std.proofs.lemmas.List.Folds.{list_all-append}
use Rattle.std.proofs.lemmas.Option.{slice_get-get_or}
use Rattle.cxl_message.specs.Names.{AreNames, names_ascend_from, is_after_last_named, is_name}

-- each stream is at least the bound
stream-from : (least : ℕ) (names : List (ℕ × List ℕ)) → IsTrue (names_ascend_from least names) → (k : ℕ) (d : ℕ × List ℕ) → k < length names → least ≤ (get_or names k d).0
stream-from least [] h k d below = omega arith
stream-from least (p ∷ ps) h zero d below = leb-true least p.0 (and_parts _ _ h).0
stream-from least (p ∷ ps) h (suc k) d below =
    let first = leb-true least p.0 (and_parts _ _ h).0 in
    let later = stream-from (p.0 + 1) ps (and_parts _ _ h).1 k d (omega arith) in
    omega arith

-- names that ascend go on ascending where a stream greater than the last is added
ascends-added : (least : ℕ) (names : List (ℕ × List ℕ)) (p : ℕ × List ℕ) → IsTrue (names_ascend_from least names) → least ≤ p.0 → ((k : ℕ) → suc k ≡ length names → (get_or names k p).0 < p.0) → IsTrue (names_ascend_from least (names ++ p ∷ []))
ascends-added least [] p h from last = and_from _ _ (le-leb least p.0 from) refl
ascends-added least (q ∷ []) p h from last = and_from _ _ (and_parts _ _ h).0 (ascends-added (q.0 + 1) [] p refl (let l = last 0 refl in omega arith) (λ k e. absurd (omega arith)))
ascends-added least (q ∷ r ∷ rs) p h from last =
    let rest = (and_parts _ _ h).1 in
    let above = stream-from (q.0 + 1) (r ∷ rs) rest (length rs) p (omega arith) in
    let end = last (suc (length rs)) refl in
    and_from _ _ (and_parts _ _ h).0 (ascends-added (q.0 + 1) (r ∷ rs) p rest (omega arith) (λ k e. last (suc k) (ap suc e)))

-- what comes after the last stream comes after the one at the last place
after_last_place : (names : List (ℕ × List ℕ)) (p : ℕ × List ℕ) → is_after_last_named names p.0 ≡ true → (k : ℕ) → suc k ≡ length names → (get_or names k p).0 < p.0
after_last_place names p after k e =
    let last : length names - 1 ≡ k = omega arith in
    let there = slice_get-get_or names k p (omega arith) in
    ltb-true _ _ (sym (ap (λ found. option_map_or (λ q. nat_lt q.0 p.0) found true) there) ∙ (ap (λ i. option_map_or (λ q. nat_lt q.0 p.0) (slice_get names i) true) (sym last) ∙ after))

-- names stay so where a later stream's is added that is spelled as a name
pub names_added : (names : List (ℕ × List ℕ)) (stream : ℕ) (name : List ℕ) → AreNames names → is_after_last_named names stream ≡ true → is_name name ≡ true → AreNames (names ++ (stream, name) ∷ [])
names_added names stream name h after spelled = record {
  ascending = ascends-added 0 names (stream, name) h.ascending (omega arith) (after_last_place names (stream, name) after);
  spelled = list_all-append _ names ((stream, name) ∷ []) ∙ and_from _ _ h.spelled (and_from _ _ spelled refl);
}

-- whether or not there was room for it
pub names_pushed : (is_pushed : Bool) (names new : List (ℕ × List ℕ)) (pair : ℕ × List ℕ) (stream : ℕ) (name : List ℕ) → AreNames names → is_after_last_named names stream ≡ true → is_name name ≡ true → new ≡ cond is_pushed (names ++ pair ∷ []) names → pair ≡ (stream, name) → AreNames new
names_pushed true names new pair stream name h after spelled e is = subst AreNames (sym (e ∙ ap (λ p. names ++ p ∷ []) is)) (names_added names stream name h after spelled)
names_pushed false names new pair stream name h after spelled e is = subst AreNames (sym e) h
