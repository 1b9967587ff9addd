-- Which stream has which name, where the named streams ascend.
use Rattle.std.proofs.Common.{◌≡◌, ℕ, suc, ◌+◌, ◌-◌, ◌<◌, ◌≤◌, Bool, true, false, IsTrue, cond, List, [], ◌∷◌, ◌++◌, length, Option, Some, None, refl, ap, subst, ◌∙◌, inl, inr, arith}
use Rattle.std.specs.Prelude.{◌==◌, nat_le, nat_lt, find, option_map, slice_get}
use Rattle.std.specs.List.{list_all}
use Rattle.std.specs.Option.{option_map_or}
use Rattle.std.proofs.lemmas.Bool.{and_parts, and_from, cases_lt, eq-eqb, ne_eqb, leb-true, le-leb, ltb-true, lt-ltb}
use Rattle.std.proofs.lemmas.List.Folds.{list_all-append}
use Rattle.cxl_message.specs.Names.{AreNames, is_after_last_named, is_name, name_of, names_ascend_from, names_fit}

-- ---- the name at the front

-- the first pair's stream has its name
first_named : (p : ℕ × List ℕ) (ps : List (ℕ × List ℕ)) (n : ℕ) → p.0 ≡ n → name_of (p ∷ ps) n ≡ Some p.1
first_named p ps n is = ap (λ (b : Bool). option_map (λ (q : ℕ × List ℕ). q.1) (cond b (Some p) (find (λ q. q.0 == n) ps))) (eq-eqb p.0 n is)

-- every other stream has the name that the rest gives it
later_named : (p : ℕ × List ℕ) (ps : List (ℕ × List ℕ)) (n : ℕ) → (p.0 ≡ n → ⊥) → name_of (p ∷ ps) n ≡ name_of ps n
later_named p ps n is_not = ap (λ (b : Bool). option_map (λ (q : ℕ × List ℕ). q.1) (cond b (Some p) (find (λ q. q.0 == n) ps))) (ne_eqb p.0 n is_not)

-- a stream before those that have names has none
none_before : (least n : ℕ) (names : List (ℕ × List ℕ)) → IsTrue (names_ascend_from least names) → n < least → name_of names n ≡ None
none_before least n [] ascending below = refl
none_before least n (p ∷ ps) ascending below =
    let parts = and_parts _ _ ascending in
    let from = leb-true least p.0 parts.0 in
    later_named p ps n (λ e. omega arith) ∙ none_before (p.0 + 1) n ps parts.1 (omega arith)

-- of names from a stream on: that stream has none, or its name comes first
pub data Next (n : ℕ) (names : List (ℕ × List ℕ)) : Type 0 where
  nameless : name_of names n ≡ None → IsTrue (names_ascend_from (n + 1) names) → Next n names
  named : (name : List ℕ) (more : List (ℕ × List ℕ)) → names ≡ (n, name) ∷ more → IsTrue (names_ascend_from (n + 1) more) → Next n names

pub next_name : (n : ℕ) (names : List (ℕ × List ℕ)) → IsTrue (names_ascend_from n names) → Next n names
next_name n [] ascending = nameless refl refl
next_name n (p ∷ ps) ascending =
    let parts = and_parts _ _ ascending in
    let from = leb-true n p.0 parts.0 in
    elim (cases_lt n p.0) [
      | inl later ↦ nameless (later_named p ps n (λ e. omega arith) ∙ none_before (p.0 + 1) n ps parts.1 (omega arith)) (and_from _ _ (le-leb (n + 1) p.0 (omega arith)) parts.1)
      | inr here ↦ let is : p.0 ≡ n = omega arith in
          named p.1 ps (ap (λ (m : ℕ). (m, p.1) ∷ ps) is) (subst (λ (m : ℕ). IsTrue (names_ascend_from (m + 1) ps)) is parts.1)
    ]

-- a stream after the first has the name that the rest gives it
pub named_later : (n k : ℕ) (name : List ℕ) (names more : List (ℕ × List ℕ)) → names ≡ (n, name) ∷ more → n < k → name_of names k ≡ name_of more k
named_later n k name names more is below = ap (λ (x : List (ℕ × List ℕ)). name_of x k) is ∙ later_named (n, name) more k (λ e. omega arith)

-- the first stream has the first name
pub named_here : (n : ℕ) (name : List ℕ) (names more : List (ℕ × List ℕ)) → names ≡ (n, name) ∷ more → name_of names n ≡ Some name
named_here n name names more is = ap (λ (x : List (ℕ × List ℕ)). name_of x n) is ∙ first_named (n, name) more n refl

-- no stream is left for a name
pub none_left : (n : ℕ) (names : List (ℕ × List ℕ)) → IsTrue (names_ascend_from n names) → IsTrue (names_fit n names) → names ≡ []
none_left n [] ascending fit = refl
none_left n (p ∷ ps) ascending fit =
    let from = leb-true n p.0 (and_parts _ _ ascending).0 in
    let below = ltb-true p.0 n (and_parts _ _ fit).0 in
    absurd (omega arith)

-- ---- a stream more

-- a stream that comes after all that there are has no name
pub none_yet : (n : ℕ) (names : List (ℕ × List ℕ)) → IsTrue (names_fit n names) → name_of names n ≡ None
none_yet n [] fit = refl
none_yet n (p ∷ ps) fit =
    let parts = and_parts _ _ fit in
    let below = ltb-true p.0 n parts.0 in
    later_named p ps n (λ e. omega arith) ∙ none_yet n ps parts.1

-- it has the name that is added for it
pub named_last : (n : ℕ) (name : List ℕ) (names : List (ℕ × List ℕ)) → IsTrue (names_fit n names) → name_of (names ++ (n, name) ∷ []) n ≡ Some name
named_last n name [] fit = first_named (n, name) [] n refl
named_last n name (p ∷ ps) fit =
    let parts = and_parts _ _ fit in
    let below = ltb-true p.0 n parts.0 in
    later_named p (ps ++ (n, name) ∷ []) n (λ e. omega arith) ∙ named_last n name ps parts.1

-- and the others keep theirs
pub others_named : (n k : ℕ) (name : List ℕ) (names : List (ℕ × List ℕ)) → k < n → name_of (names ++ (n, name) ∷ []) k ≡ name_of names k
others_named n k name [] below = later_named (n, name) [] k (λ e. omega arith)
others_named n k name (p ∷ ps) below = both (p.0 == k) (others_named n k name ps below)
  where
    both : (b : Bool) → name_of (ps ++ (n, name) ∷ []) k ≡ name_of ps k
        → option_map (λ (q : ℕ × List ℕ). q.1) (cond b (Some p) (find (λ q. q.0 == k) (ps ++ (n, name) ∷ []))) ≡ option_map (λ (q : ℕ × List ℕ). q.1) (cond b (Some p) (find (λ q. q.0 == k) ps))
    both true rest = refl
    both false rest = rest

-- names of streams are names of more streams
pub fit_more : (n : ℕ) (names : List (ℕ × List ℕ)) → IsTrue (names_fit n names) → IsTrue (names_fit (n + 1) names)
fit_more n [] fit = refl
fit_more n (p ∷ ps) fit =
    let parts = and_parts _ _ fit in
    let below = ltb-true p.0 n parts.0 in
    and_from _ _ (lt-ltb p.0 (n + 1) (omega arith)) (fit_more n ps parts.1)

-- and so with the name of the stream that is added
pub fit_added : (n : ℕ) (name : List ℕ) (names : List (ℕ × List ℕ)) → IsTrue (names_fit n names) → IsTrue (names_fit (n + 1) (names ++ (n, name) ∷ []))
fit_added n name names fit = list_all-append (λ p. nat_lt p.0 (n + 1)) names ((n, name) ∷ []) ∙ and_from _ _ (fit_more n names fit) (and_from _ _ (lt-ltb n (n + 1) (omega arith)) refl)

-- the stream that is added comes after all that have names
pub after_named : (n : ℕ) (names : List (ℕ × List ℕ)) → IsTrue (names_fit n names) → IsTrue (is_after_last_named names n)
after_named n [] fit = refl
after_named n (p ∷ []) fit = (and_parts _ _ fit).0
after_named n (p ∷ q ∷ ps) fit =
    let last : length (p ∷ q ∷ ps) - 1 ≡ suc (length (q ∷ ps) - 1) = omega arith in
    ap (λ (i : ℕ). option_map_or (λ x. nat_lt x.0 n) (slice_get (p ∷ q ∷ ps) i) true) last ∙ after_named n (q ∷ ps) (and_parts _ _ fit).1

-- they ascend with it
ascending_added : (least n : ℕ) (name : List ℕ) (names : List (ℕ × List ℕ)) → IsTrue (names_ascend_from least names) → IsTrue (names_fit n names) → least ≤ n → IsTrue (names_ascend_from least (names ++ (n, name) ∷ []))
ascending_added least n name [] ascending fit from = and_from (nat_le least n) true (le-leb least n from) refl
ascending_added least n name (p ∷ ps) ascending fit from =
    let parts = and_parts _ _ ascending in
    let fits = and_parts _ _ fit in
    let below = ltb-true p.0 n fits.0 in
    and_from (nat_le least p.0) _ parts.0 (ascending_added (p.0 + 1) n name ps parts.1 fits.1 (omega arith))

-- the names with the name of a stream more are names
pub are_names_added : (n : ℕ) (name : List ℕ) (names : List (ℕ × List ℕ)) → AreNames names → IsTrue (names_fit n names) → IsTrue (is_name name) → AreNames (names ++ (n, name) ∷ [])
are_names_added n name names are fit spelled = record {
  ascending = ascending_added 0 n name names are.ascending fit (omega arith);
  spelled = list_all-append (λ p. is_name p.1) names ((n, name) ∷ []) ∙ and_from _ _ are.spelled (and_from _ _ spelled refl);
}

-- ---- spelling

-- what is found is spelled as a name
abbrev pub IsNameIfAny : Option (List ℕ) → Type 0
IsNameIfAny None = Unit {0}
IsNameIfAny (Some name) = IsTrue (is_name name)

pub name_spelled : (n : ℕ) (names : List (ℕ × List ℕ)) → IsTrue (list_all (λ p. is_name p.1) names) → IsNameIfAny (name_of names n)
name_spelled n [] spelled = tt
name_spelled n (p ∷ ps) spelled = both (p.0 == n) (name_spelled n ps (and_parts _ _ spelled).1)
  where
    both : (b : Bool) → IsNameIfAny (name_of ps n) → IsNameIfAny (option_map (λ (q : ℕ × List ℕ). q.1) (cond b (Some p) (find (λ q. q.0 == n) ps)))
    both true rest = (and_parts _ _ spelled).0
    both false rest = rest
