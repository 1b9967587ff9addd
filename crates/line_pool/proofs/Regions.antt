-- What keeps a pool's lines, marks and free slots together.
use Rattle.std.proofs.Common.{◌≡◌, ◌≢◌, ℕ, ◌+◌, ◌<◌, ◌≤◌, ◌⊎◌, if◌then◌else◌, Bool, true, false, List, [], ◌∷◌, ◌++◌, length, replicate, set, get_or, sum_by, refl, ap, sym, ◌∙◌, zero, suc, inl, inr, subst, arith, length-append}
use Rattle.std.proofs.Math.Dec.{eqb}
use Rattle.std.proofs.Math.ListN.{get_or-eq_default}
use Rattle.std.proofs.lemmas.Bool.{cases_eq, cases_lt, eq-eqb, ne_eqb}
use Rattle.std.proofs.lemmas.List.{get_or-set_same, get_or-set_other, get_or-replicate, length-set, length-replicate}
use Rattle.std.proofs.lemmas.List.Folds.{sum_by-replicate}
use Rattle.std.proofs.lemmas.List.FromFn.{length-range_with_len}
use Rattle.std.proofs.lemmas.List.Sums.{sum_by-cons, sum_by-set, sum_by_push}
use Rattle.std.specs.List.{range_with_len}
use Rattle.line_pool.specs.Region.{IsSound, marks, marks_from, spare_of, times_of}

-- a number is looked for and found
pub times_of-same : (slot : ℕ) → times_of slot slot ≡ 1
times_of-same slot = ap (λ b. if b then 1 else 0) (eq-eqb slot slot refl)

-- a number is looked for, and it is another
pub times_of-other : (slot n : ℕ) → n ≢ slot → times_of slot n ≡ 0
times_of-other slot n other = ap (λ b. if b then 1 else 0) (ne_eqb n slot other)

-- a mark that counts as spare
pub is_spare : (u : Bool) → 0 < spare_of u → u ≡ false
is_spare true some = absurd (omega (arith, some))
is_spare false some = refl

-- at most one is spare for each slot
pub sum_by-spare_of-le : (used : List Bool) → sum_by spare_of used ≤ length used
sum_by-spare_of-le [] = omega arith
sum_by-spare_of-le (true ∷ used) = omega (arith, sum_by-cons spare_of true used, sum_by-spare_of-le used)
sum_by-spare_of-le (false ∷ used) = omega (arith, sum_by-cons spare_of false used, sum_by-spare_of-le used)

-- where a slot is in use, fewer are spare than there are
pub sum_by-spare_of-lt : (used : List Bool) (slot : ℕ) → slot < length used → get_or used slot true ≡ true → sum_by spare_of used < length used
sum_by-spare_of-lt used slot here in_use =
    omega (
      arith,
      sum_by-set spare_of used slot false true here,
      ap spare_of in_use,
      sum_by-spare_of-le (set used slot false),
      length-set used slot false,
    )

-- a slot that is in use by one reading is one by the other
pub in_use_within : (used : List Bool) (slot : ℕ) → get_or used slot false ≡ true → (slot < length used) × (get_or used slot true ≡ true)
in_use_within [] slot in_use = let no : 1 ≡ 0 = ap spare_of in_use in absurd (omega (arith, no))
in_use_within (u ∷ used) zero in_use = (omega arith, in_use)
in_use_within (u ∷ used) (suc slot) in_use = let rest = in_use_within used slot in_use in (omega (arith, rest.0), rest.1)

-- a slot that is spare is within the marks, and not in use by the other reading
pub spare_within : (used : List Bool) (slot : ℕ) → get_or used slot true ≡ false → (slot < length used) × (get_or used slot false ≡ false)
spare_within [] slot spare = let no : 0 ≡ 1 = ap spare_of spare in absurd (omega (arith, no))
spare_within (u ∷ used) zero spare = (omega arith, spare)
spare_within (u ∷ used) (suc slot) spare = let rest = spare_within used slot spare in (omega (arith, rest.0), rest.1)

-- the slot on top of the free ones is one that is not in use
pub top_is_spare : (lines : List (List ℕ)) (used : List Bool) (free rest : List ℕ) (slot capacity : ℕ) → free ≡ rest ++ slot ∷ [] → IsSound lines used free capacity → get_or used slot true ≡ false
top_is_spare lines used free rest slot capacity parts sound =
    is_spare _ (omega (arith, sound.once slot, ap (sum_by (times_of slot)) parts, sum_by_push (times_of slot) rest slot, times_of-same slot))

-- of each slot the right count of free ones, once a slot is taken
take_once : (used : List Bool) (rest : List ℕ) (slot k : ℕ) → slot < length used → get_or used slot true ≡ false → sum_by (times_of k) (rest ++ slot ∷ []) ≡ spare_of (get_or used k true) → (k ≡ slot) ⊎ (k ≢ slot) → sum_by (times_of k) rest ≡ spare_of (get_or (set used slot true) k true)
take_once used rest slot k here spare once (inl same) =
    let at : get_or (set used slot true) k true ≡ true = ap (λ n. get_or (set used slot true) n true) same ∙ get_or-set_same used slot true true here in
    let was : get_or used k true ≡ false = ap (λ n. get_or used n true) same ∙ spare in
    omega (arith, once, sum_by_push (times_of k) rest slot, ap (times_of k) (sym same), times_of-same k, ap spare_of at, ap spare_of was)
take_once used rest slot k here spare once (inr other) =
    let at : get_or (set used slot true) k true ≡ get_or used k true = get_or-set_other used slot k true true other in
    omega (arith, once, sum_by_push (times_of k) rest slot, times_of-other k slot (λ e. other (sym e)), ap spare_of at)

-- a slot is taken
pub IsSound-take : (lines : List (List ℕ)) (used : List Bool) (free rest : List ℕ) (slot capacity kept : ℕ) (line : List ℕ) → free ≡ rest ++ slot ∷ [] → capacity ≤ kept → IsSound lines used free capacity → IsSound (set lines slot line) (set used slot true) rest kept
IsSound-take lines used free rest slot capacity kept line parts le sound =
    let spare : get_or used slot true ≡ false = top_is_spare lines used free rest slot capacity parts sound in
    let here : slot < length used = (spare_within used slot spare).0 in
    let size : length (set used slot true) ≡ length used = length-set used slot true in
    record {
      sizes = size ∙ sound.sizes ∙ sym (length-set lines slot line);
      most = omega (arith, sound.most, size);
      room = omega (arith, sound.room, size);
      counted = omega (arith, sound.counted, ap length parts, length-append rest (slot ∷ []), sum_by-set spare_of used slot true true here, ap spare_of spare);
      once = λ k. take_once used rest slot k here spare (sym (ap (sum_by (times_of k)) parts) ∙ sound.once k) (cases_eq k slot);
    }

-- of each slot the right count of free ones, once a slot is given back
give_once : (used : List Bool) (free : List ℕ) (slot k : ℕ) → slot < length used → get_or used slot true ≡ true → sum_by (times_of k) free ≡ spare_of (get_or used k true) → (k ≡ slot) ⊎ (k ≢ slot) → sum_by (times_of k) (free ++ slot ∷ []) ≡ spare_of (get_or (set used slot false) k true)
give_once used free slot k here in_use once (inl same) =
    let at : get_or (set used slot false) k true ≡ false = ap (λ n. get_or (set used slot false) n true) same ∙ get_or-set_same used slot false true here in
    let was : get_or used k true ≡ true = ap (λ n. get_or used n true) same ∙ in_use in
    omega (arith, once, sum_by_push (times_of k) free slot, ap (times_of k) (sym same), times_of-same k, ap spare_of at, ap spare_of was)
give_once used free slot k here in_use once (inr other) =
    let at : get_or (set used slot false) k true ≡ get_or used k true = get_or-set_other used slot k false true other in
    omega (arith, once, sum_by_push (times_of k) free slot, times_of-other k slot (λ e. other (sym e)), ap spare_of at)

-- a slot is given back
pub IsSound-give : (lines : List (List ℕ)) (used : List Bool) (free longer : List ℕ) (slot capacity kept : ℕ) → longer ≡ free ++ slot ∷ [] → capacity ≤ kept → slot < length used → get_or used slot true ≡ true → IsSound lines used free capacity → IsSound lines (set used slot false) longer kept
IsSound-give lines used free longer slot capacity kept parts le here in_use sound =
    let size : length (set used slot false) ≡ length used = length-set used slot false in
    record {
      sizes = size ∙ sound.sizes;
      most = omega (arith, sound.most, size);
      room = omega (arith, sound.room, size);
      counted = omega (arith, sound.counted, ap length parts, length-append free (slot ∷ []), sum_by-set spare_of used slot false true here, ap spare_of in_use);
      once = λ k. ap (sum_by (times_of k)) parts ∙ give_once used free slot k here in_use (sound.once k) (cases_eq k slot);
    }

-- a number that a range has not
range_without : (slot a n : ℕ) → (slot < a) ⊎ (a + n ≤ slot) → sum_by (times_of slot) (range_with_len a n) ≡ 0
range_without slot a zero out = refl
range_without slot a (suc n) (inl below) =
    omega (arith, sum_by-cons (times_of slot) a (range_with_len (a + 1) n), times_of-other slot a (omega arith), range_without slot (a + 1) n (inl (omega arith)))
range_without slot a (suc n) (inr above) =
    omega (arith, sum_by-cons (times_of slot) a (range_with_len (a + 1) n), times_of-other slot a (omega arith), range_without slot (a + 1) n (inr (omega arith)))

-- a number that a range has, once
range_with : (slot a n : ℕ) → a ≤ slot → slot < a + n → (a ≡ slot) ⊎ (a ≢ slot) → sum_by (times_of slot) (range_with_len a n) ≡ 1
range_with slot a zero from below is = absurd (omega (arith, from, below))
range_with slot a (suc n) from below (inl same) =
    omega (
      arith,
      sum_by-cons (times_of slot) a (range_with_len (a + 1) n),
      ap (times_of slot) same,
      times_of-same slot,
      range_without slot (a + 1) n (inl (omega (arith, same))),
    )
range_with slot a (suc n) from below (inr other) =
    omega (
      arith,
      sum_by-cons (times_of slot) a (range_with_len (a + 1) n),
      times_of-other slot a other,
      range_with slot (a + 1) n (omega arith) (omega arith) (cases_eq (a + 1) slot),
    )

-- of each slot the right count of free ones at first
open_once : (n k : ℕ) → (k < n) ⊎ (n ≤ k) → sum_by (times_of k) (range_with_len 0 n) ≡ spare_of (get_or (replicate n false) k true)
open_once n k (inl below) = range_with k 0 n (omega arith) (omega arith) (cases_eq 0 k) ∙ ap spare_of (sym (get_or-replicate n k false true below))
open_once n k (inr above) =
    range_without k 0 n (inr (omega arith))
    ∙ ap spare_of (sym (get_or-eq_default (replicate n false) true (omega (arith, length-replicate n false))))

-- at first all slots are spare
pub IsSound-open : (n capacity : ℕ) (lines : List (List ℕ)) (used : List Bool) (free : List ℕ) → used ≡ replicate n false → free ≡ range_with_len 0 n → length lines ≡ n → n ≤ 131072 → n ≤ capacity → IsSound lines used free capacity
IsSound-open n capacity lines used free marks numbers count most room =
    let size : length used ≡ n = ap length marks ∙ length-replicate n false in
    record {
      sizes = size ∙ sym count;
      most = omega (arith, size, most);
      room = omega (arith, size, room);
      counted = omega (arith, ap length numbers, length-range_with_len 0 n, ap (sum_by spare_of) marks, sum_by-replicate spare_of n false);
      once = λ k. ap (sum_by (times_of k)) numbers ∙ open_once n k (cases_lt k n) ∙ ap (λ us. spare_of (get_or us k true)) (sym marks);
    }

-- a mark that is told by how often the slot is free
mark_of : (u : Bool) (times : ℕ) → times ≡ spare_of u → eqb times 0 ≡ u
mark_of true times is = ap (λ n. eqb n 0) is
mark_of false times is = ap (λ n. eqb n 0) is

-- the free slots determine the marks of some slots
marks_from-unique : (free : List ℕ) (first n : ℕ) (used : List Bool) → length used ≡ n → ((j : ℕ) → sum_by (times_of (first + j)) free ≡ spare_of (get_or used j true)) → marks_from free first n ≡ used
marks_from-unique free first zero [] size once = refl
marks_from-unique free first zero (u ∷ used) size once = absurd (omega (arith, size))
marks_from-unique free first (suc n) [] size once = absurd (omega (arith, size))
marks_from-unique free first (suc n) (u ∷ used) size once =
    let at : first ≡ first + 0 = omega arith in
    let mark : eqb (sum_by (times_of first) free) 0 ≡ u = mark_of u _ (ap (λ k. sum_by (times_of k) free) at ∙ once 0) in
    let rest : marks_from free (first + 1) n ≡ used =
    marks_from-unique free (first + 1) n used (omega (arith, size)) (λ j.
    let next : first + 1 + j ≡ first + suc j = omega arith in
    ap (λ k. sum_by (times_of k) free) next ∙ once (suc j)) in
    ap (λ v. v ∷ marks_from free (first + 1) n) mark ∙ ap (λ us. u ∷ us) rest

-- the free slots determine the marks
pub marks-unique : (lines : List (List ℕ)) (used : List Bool) (free : List ℕ) (n capacity : ℕ) → length lines ≡ n → IsSound lines used free capacity → marks free n ≡ used
marks-unique lines used free n capacity size sound =
    marks_from-unique free 0 n used (sound.sizes ∙ size) (λ j.
    let at : 0 + j ≡ j = omega arith in
    ap (λ k. sum_by (times_of k) free) at ∙ sound.once j)

-- once a slot is taken, the free ones determine these marks
pub marks-taken : (lines : List (List ℕ)) (used : List Bool) (free rest : List ℕ) (slot n capacity : ℕ) → length lines ≡ n → free ≡ rest ++ slot ∷ [] → IsSound lines used free capacity → marks rest n ≡ set used slot true
marks-taken lines used free rest slot n capacity size parts sound =
    marks-unique (set lines slot []) _ rest n capacity (length-set lines slot [] ∙ size) (IsSound-take lines used free rest slot capacity capacity [] parts (omega arith) sound)

-- a slot is taken, and the marks are those that the free ones determine
pub IsSound-taken : (lines : List (List ℕ)) (used : List Bool) (free rest : List ℕ) (slot n capacity kept : ℕ) (line : List ℕ) → length lines ≡ n → free ≡ rest ++ slot ∷ [] → capacity ≤ kept → IsSound lines used free capacity → IsSound (set lines slot line) (marks rest n) rest kept
IsSound-taken lines used free rest slot n capacity kept line size parts le sound =
    subst
    (λ us. IsSound (set lines slot line) us rest kept)
    (sym (marks-taken lines used free rest slot n capacity size parts sound))
    (IsSound-take lines used free rest slot capacity kept line parts le sound)

-- once a slot is given back, the free ones determine these marks
pub marks-given : (lines : List (List ℕ)) (used : List Bool) (free longer : List ℕ) (slot n capacity : ℕ) → length lines ≡ n → longer ≡ free ++ slot ∷ [] → slot < length used → get_or used slot true ≡ true → IsSound lines used free capacity → marks longer n ≡ set used slot false
marks-given lines used free longer slot n capacity size parts here in_use sound =
    marks-unique lines _ longer n capacity size (IsSound-give lines used free longer slot capacity capacity parts (omega arith) here in_use sound)

-- a slot is given back, and the marks are those that the free ones determine
pub IsSound-given : (lines : List (List ℕ)) (used : List Bool) (free longer : List ℕ) (slot n capacity kept : ℕ) → length lines ≡ n → longer ≡ free ++ slot ∷ [] → capacity ≤ kept → slot < length used → get_or used slot true ≡ true → IsSound lines used free capacity → IsSound lines (marks longer n) longer kept
IsSound-given lines used free longer slot n capacity kept size parts le here in_use sound =
    subst
    (λ us. IsSound lines us longer kept)
    (sym (marks-given lines used free longer slot n capacity size parts here in_use sound))
    (IsSound-give lines used free longer slot capacity kept parts le here in_use sound)

-- at first all slots are spare, by the marks that the free ones determine
pub marks-opened : (n m : ℕ) (lines : List (List ℕ)) (free : List ℕ) → free ≡ range_with_len 0 n → length lines ≡ n → length lines ≡ m → n ≤ 131072 → marks free m ≡ replicate n false
marks-opened n m lines free numbers count size most =
    marks-unique lines _ free m n size (IsSound-open n n lines _ free refl numbers count most (omega arith))

-- at first a pool's lines and free slots belong together
pub IsSound-opened : (n m capacity : ℕ) (lines : List (List ℕ)) (free : List ℕ) → free ≡ range_with_len 0 n → length lines ≡ n → length lines ≡ m → n ≤ 131072 → n ≤ capacity → IsSound lines (marks free m) free capacity
IsSound-opened n m capacity lines free numbers count size most room =
    IsSound-open n capacity lines _ free (marks-opened n m lines free numbers count size most) numbers count most room
