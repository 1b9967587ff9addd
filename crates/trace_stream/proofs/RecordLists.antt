-- The bytes of names and of openings, one after another.
use Rattle.std.proofs.Common.{◌≡◌, ℕ, zero, suc, ◌+◌, ◌<◌, ◌≤◌, List, [], ◌∷◌, ◌++◌, length, get_or, take, drop, Option, Some, IsTrue, Bool, refl, sym, ap, subst, ◌∙◌, append-nil, take-append-drop, arith, nat_lt}
use Rattle.std.proofs.lemmas.List.{take_more}
use Rattle.std.proofs.lemmas.Grind.{flat_map-append}
use Rattle.std.proofs.lemmas.Option.{get_or_from_slice_get}
use Rattle.std.proofs.lemmas.Bool.{and_parts, and_from, ltb-true, lt-ltb}
use Rattle.std.specs.Prelude.{nat_lt, slice_get}
use Rattle.std.specs.List.{flat_map, list_all, AllByRecursion}
use Rattle.cxl_message.specs.Names.{AreNames, is_name, names_fit}
use Rattle.cxl_message.specs.Opening.{opening_fits}
use Rattle.cxl_message.specs.declared.identifiers.Line.{Line}
use Rattle.cxl_message.specs.declared.identifiers.Bytes64.{Bytes64}
use Rattle.cxl_codec.specs.declared.versions.Version.{Version}
use Rattle.trace_stream.specs.Buffers.{Puts, PutsFront}
use Rattle.trace_stream.specs.Runs.{NamesFit}
use Rattle.trace_stream.proofs.Putting.{puts_twice, puts_then_front, front_of_more, all_more}

module _ {A : Type 0} (record_bytes : A → List ℕ) where
  -- one more record
  records_more : (xs : List A) (i : ℕ) (d : A) → i < length xs → flat_map record_bytes (take (i + 1) xs) ≡ flat_map record_bytes (take i xs) ++ record_bytes (get_or xs i d)
  records_more xs i d lt =
      ap (λ (l : List A). flat_map record_bytes l) (take_more xs i d lt) ∙ flat_map-append record_bytes (take i xs) (get_or xs i d ∷ [])
      ∙ ap (λ (l : List ℕ). flat_map record_bytes (take i xs) ++ l) (append-nil (record_bytes (get_or xs i d)))

  -- the records up to one of them, and the others
  records_split : (xs : List A) (i : ℕ) → flat_map record_bytes xs ≡ flat_map record_bytes (take i xs) ++ flat_map record_bytes (drop i xs)
  records_split xs i = ap (λ (l : List A). flat_map record_bytes l) (sym (take-append-drop i xs)) ∙ flat_map-append record_bytes (take i xs) (drop i xs)

  -- one more record was put
  pub puts_record : (a b c : Option (List ℕ)) (w x y : List ℕ) (xs : List A) (i : ℕ) (d : A) → i < length xs → Puts a b w x (flat_map record_bytes (take i xs)) → Puts b c x y (record_bytes (get_or xs i d))
      → Puts a c w y (flat_map record_bytes (take (i + 1) xs))
  puts_record a b c w x y xs i d lt p q =
      subst (λ (bytes : List ℕ). Puts a c w y bytes) (sym (records_more xs i d lt)) (puts_twice a b c w x y (flat_map record_bytes (take i xs)) (record_bytes (get_or xs i d)) p q)

  -- one more record was to be put
  pub front_of_record : (a b c : Option (List ℕ)) (w x : List ℕ) (xs : List A) (i : ℕ) (d : A) → i < length xs → Puts a b w x (flat_map record_bytes (take i xs)) → PutsFront b c x (record_bytes (get_or xs i d))
      → PutsFront a c w (flat_map record_bytes xs)
  front_of_record a b c w x xs i d lt p q =
      let front : PutsFront a c w (flat_map record_bytes (take i xs) ++ record_bytes (get_or xs i d)) = puts_then_front a b c w x (flat_map record_bytes (take i xs)) (record_bytes (get_or xs i d)) p q in
      let longer : PutsFront a c w (flat_map record_bytes (take (i + 1) xs) ++ flat_map record_bytes (drop (i + 1) xs)) =
      front_of_more a c w (flat_map record_bytes (take (i + 1) xs)) (flat_map record_bytes (drop (i + 1) xs)) (subst (λ (bytes : List ℕ). PutsFront a c w bytes) (sym (records_more xs i d lt)) front) in
      subst (λ (bytes : List ℕ). PutsFront a c w bytes) (sym (records_split xs (i + 1))) longer

-- one more value that has a record
pub fits_one_more : {A : Type 0} (Fits : A → Type 0) (xs : List A) (i : ℕ) (d : A) → i < length xs → AllByRecursion Fits (take i xs) → Fits (get_or xs i d) → AllByRecursion Fits (take (i + 1) xs)
fits_one_more {A} Fits xs i d lt each one = subst (λ (l : List A). AllByRecursion Fits l) (sym (take_more xs i d lt)) (all_more Fits (take i xs) (get_or xs i d) each one)

-- a test that all pass is passed by each
pub each_passes : {A : Type 0} (p : A → Bool) (xs : List A) (i : ℕ) (d : A) → i < length xs → IsTrue (list_all p xs) → IsTrue (p (get_or xs i d))
each_passes p [] i d lt all = absurd (omega arith)
each_passes p (x ∷ xs) zero d lt all = (and_parts (p x) (list_all p xs) all).0
each_passes p (x ∷ xs) (suc i) d lt all = each_passes p xs i d (omega arith) (and_parts (p x) (list_all p xs) all).1

-- a name in its place, below 64 and spelled as one
pub record IsNamed (names : List (ℕ × List ℕ)) (i : ℕ) (n : ℕ × List ℕ) : Type 0 where
  pub there : get_or names i (0, []) ≡ n
  pub within : i < length names
  pub stream : n.0 < 64
  pub spelled : IsTrue (is_name n.1)

pub named_at : (names : List (ℕ × List ℕ)) (i : ℕ) (n : ℕ × List ℕ) → slice_get names i ≡ Some n → i < length names → IsTrue (names_fit 64 names) → AreNames names → IsNamed names i n
named_at names i n found lt fit are =
    let there = get_or_from_slice_get names i n (0, []) found in
    record {
      there = there;
      within = lt;
      stream = ltb-true n.0 64 (subst (λ (m : ℕ × List ℕ). IsTrue (nat_lt m.0 64)) there (each_passes (λ (m : ℕ × List ℕ). nat_lt m.0 64) names i (0, []) lt fit));
      spelled = subst (λ (m : ℕ × List ℕ). IsTrue (is_name m.1)) there (each_passes (λ (m : ℕ × List ℕ). is_name m.1) names i (0, []) lt are.spelled);
    }

-- lines of a setup are lines of a larger one
pub fits_more : (few many : ℕ) → few ≤ many → (opening : List (Line × Bytes64)) → IsTrue (opening_fits few opening) → IsTrue (opening_fits many opening)
fits_more few many le [] h = refl
fits_more few many le (p ∷ opening) h =
    let parts = and_parts (nat_lt p.0.0 few) (opening_fits few opening) h in
    and_from _ _ (lt-ltb p.0.0 many (omega (arith, ltb-true p.0.0 few parts.0))) (fits_more few many le opening parts.1)

-- and streams of a setup are streams of a larger one
names_fit_more : (few many : ℕ) → few ≤ many → (names : List (ℕ × List ℕ)) → IsTrue (names_fit few names) → IsTrue (names_fit many names)
names_fit_more few many le [] h = refl
names_fit_more few many le (n ∷ names) h =
    let parts = and_parts (nat_lt n.0 few) (names_fit few names) h in
    and_from _ _ (lt-ltb n.0 many (omega (arith, ltb-true n.0 few parts.0))) (names_fit_more few many le names parts.1)

-- the names of a trace are of streams below 64
pub named_streams : (version : Version) (streams : ℕ) (names : List (ℕ × List ℕ)) → streams ≤ 64 → NamesFit version streams names → IsTrue (names_fit 64 names)
named_streams Version.One streams names le none = subst (λ (ns : List (ℕ × List ℕ)). IsTrue (names_fit 64 ns)) (sym none) refl
named_streams Version.Two streams names le fit = names_fit_more streams 64 le names fit.1
