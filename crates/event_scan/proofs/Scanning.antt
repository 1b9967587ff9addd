-- What is to come of the parts after some bytes.
use Rattle.std.proofs.Common.{◌≡◌, ℕ, zero, suc, ◌-◌, ◌<◌, ◌≤◌, List, [], ◌∷◌, ◌++◌, length, take, drop, get_or, Option, Some, None, refl, sym, ap, ◌∙◌, append_assoc, arith, inl, inr, ◌⊎◌}
use Rattle.std.specs.Prelude.{max}
use Rattle.std.proofs.lemmas.List.{append-nil, drop_all, take_all, length-drop, length-take, take-append-drop}
use Rattle.std.proofs.lemmas.Bool.{lt-ltb, le-ltb}
use Rattle.event_scan.specs.declared.scans.Part.{Part}
use Rattle.event_scan.specs.Scanning.{GoesOver, IsOver, after_byte, after_first, scan}

-- where no part is to come, no byte is taken
pub no_more : (b : ℕ) (bytes : List ℕ) (out : List Part) → scan [] (b ∷ bytes) ≡ Some out → ⊥
unfolding scan
no_more b bytes out e = absurd cc

-- one byte, and then others
pub scan_step : (p : Part) (ps : List Part) (b : ℕ) (bytes : List ℕ) (next : List Part) → after_byte p b ≡ Some next → scan (p ∷ ps) (b ∷ bytes) ≡ scan (next ++ ps) bytes
unfolding scan
scan_step p ps b bytes next e = rw e refl

-- a byte that a part can't have
pub scan_stop : (p : Part) (ps : List Part) (b : ℕ) (bytes : List ℕ) → after_byte p b ≡ None → scan (p ∷ ps) (b ∷ bytes) ≡ None
unfolding scan
scan_stop p ps b bytes e = rw e refl

-- nothing was seen
pub scan_nil : (ps : List Part) → scan ps [] ≡ Some ps
unfolding scan
scan_nil [] = refl
scan_nil (p ∷ ps) = refl

-- what there is, if there is something
pub known : {X : Type 0} (next : Option X) → ((x : X) × (next ≡ Some x)) ⊎ (next ≡ None)
known (Some x) = inl (x, refl)
known None = inr refl

-- some bytes, and then others
pub scan_append : (ps qs : List Part) (xs ys : List ℕ) → scan ps xs ≡ Some qs → scan ps (xs ++ ys) ≡ scan qs ys
scan_append ps qs [] ys e = let same : Some ps ≡ Some qs = sym (scan_nil ps) ∙ e in ap (λ (all : List Part). scan all ys) cc
scan_append [] qs (x ∷ xs) ys e = absurd (no_more x xs qs e)
scan_append (p ∷ ps) qs (x ∷ xs) ys e = elim (known (after_byte p x)) [
  | inl n ↦ scan_step p ps x (xs ++ ys) n.0 n.1 ∙ scan_append (n.0 ++ ps) qs xs ys (sym (scan_step p ps x xs n.0 n.1) ∙ e)
  | inr n ↦
      let stop : None ≡ Some qs = sym (scan_stop p ps x xs n) ∙ e in
      absurd cc
]

-- a byte that was refused stays refused, whatever follows
pub scan_none : (ps : List Part) (xs ys : List ℕ) → scan ps xs ≡ None → scan ps (xs ++ ys) ≡ None
unfolding scan
scan_none ps [] ys e = let some : Some ps ≡ None = sym (scan_nil ps) ∙ e in absurd cc
scan_none [] (x ∷ xs) ys e = refl
scan_none (p ∷ ps) (x ∷ xs) ys e = elim (known (after_byte p x)) [
  | inl n ↦ scan_step p ps x (xs ++ ys) n.0 n.1 ∙ scan_none (n.0 ++ ps) xs ys (sym (scan_step p ps x xs n.0 n.1) ∙ e)
  | inr n ↦ scan_stop p ps x (xs ++ ys) n
]

-- the bytes of the first parts, before others
pub scan_more : (ss ts out : List Part) (bytes : List ℕ) → scan ss bytes ≡ Some out → scan (ss ++ ts) bytes ≡ Some (out ++ ts)
scan_more ss ts out [] e =
    let same : Some ss ≡ Some out = sym (scan_nil ss) ∙ e in
    let is : ss ≡ out = cc in
    scan_nil (ss ++ ts) ∙ ap (λ (ps : List Part). Some (ps ++ ts)) is
scan_more [] ts out (b ∷ bytes) e = absurd (no_more b bytes out e)
scan_more (s ∷ ss) ts out (b ∷ bytes) e = elim (known (after_byte s b)) [
  | inl n ↦
      scan_step s (ss ++ ts) b bytes n.0 n.1 ∙ ap (λ (ps : List Part). scan ps bytes) (sym (append_assoc n.0 ss ts))
      ∙ scan_more (n.0 ++ ss) ts out bytes (sym (scan_step s ss b bytes n.0 n.1) ∙ e)
  | inr n ↦
      let stop : None ≡ Some out = sym (scan_stop s ss b bytes n) ∙ e in
      absurd cc
]

-- one byte alone
pub scan_one : (ps qs : List Part) (b : ℕ) → after_first ps b ≡ Some qs → scan ps (b ∷ []) ≡ Some qs
unfolding scan
scan_one [] qs b e = absurd cc
scan_one (p ∷ ps) qs b e = rw e (scan_nil qs)

-- fewer free bytes than are to come
pub scan_free : (n : ℕ) (ps : List Part) (bytes : List ℕ) → length bytes < n → scan (Part.Free n ∷ ps) bytes ≡ Some (Part.Free (n - length bytes) ∷ ps)
scan_free n ps [] lt = scan_nil (Part.Free n ∷ ps) ∙ ap (λ (m : ℕ). Some (Part.Free m ∷ ps)) (omega arith)
scan_free n ps (b ∷ bytes) lt =
    let one : after_byte (Part.Free n) b ≡ Some (Part.Free (n - 1) ∷ []) = rw (lt-ltb 1 n (omega arith)) refl in
    scan_step (Part.Free n) ps b bytes (Part.Free (n - 1) ∷ []) one ∙ scan_free (n - 1) ps bytes (omega arith) ∙ ap (λ (m : ℕ). Some (Part.Free m ∷ ps)) (omega arith)

-- the last free byte
scan_last : (n : ℕ) (ps : List Part) (b : ℕ) → n ≤ 1 → scan (Part.Free n ∷ ps) (b ∷ []) ≡ Some ps
scan_last n ps b le =
    let one : after_byte (Part.Free n) b ≡ Some [] = rw (le-ltb 1 n le) refl in
    scan_step (Part.Free n) ps b [] [] one ∙ scan_nil ps

-- as many free bytes as are to come
scan_block : (n : ℕ) (ps : List Part) (b : ℕ) (bytes : List ℕ) → length (b ∷ bytes) ≡ n → scan (Part.Free n ∷ ps) (b ∷ bytes) ≡ Some ps
scan_block n ps b [] e = scan_last n ps b (omega (arith, e))
scan_block n ps b (c ∷ bytes) e =
    let one : after_byte (Part.Free n) b ≡ Some (Part.Free (n - 1) ∷ []) = rw (lt-ltb 1 n (omega (arith, e))) refl in
    scan_step (Part.Free n) ps b (c ∷ bytes) (Part.Free (n - 1) ∷ []) one ∙ scan_block (n - 1) ps c bytes (omega (arith, e))

-- what is to come after no byte, or after as many free bytes as are to come
pub scan_front : (n : ℕ) (ps : List Part) (front : List ℕ) → length front ≡ max n 1 → scan (Part.Free n ∷ ps) front ≡ Some ps
scan_front n ps [] e = absurd (omega (arith, e))
scan_front zero ps (b ∷ []) e = scan_last 0 ps b (omega arith)
scan_front zero ps (b ∷ c ∷ bytes) e = absurd (omega (arith, e))
scan_front (suc n) ps (b ∷ bytes) e = scan_block (suc n) ps b bytes (omega (arith, e))

-- the bytes from a place on
pub from_place : (k : ℕ) (bytes : List ℕ) → take (length bytes - k) (drop k bytes) ≡ drop k bytes
from_place k bytes = take_all (length bytes - k) (drop k bytes) (omega (arith, length-drop k bytes))

-- some bytes are all free, and more of them are to come
pub over_some : (n : ℕ) (ps : List Part) (bytes : List ℕ) → 0 < length bytes → length bytes < n → GoesOver (Part.Free n ∷ ps) (Part.Free (n - length bytes) ∷ ps) bytes (drop (length bytes) bytes)
over_some n ps bytes some fewer = record {
  front = bytes;
  whole = sym (append-nil bytes) ∙ ap (λ (bs : List ℕ). bytes ++ bs) (sym (drop_all (length bytes) bytes (omega arith)));
  fewer = omega (arith, length-drop (length bytes) bytes);
  scanned = scan_free n ps bytes fewer;
}

-- the first bytes are all that are free
pub over_all : (n : ℕ) (ps : List Part) (bytes : List ℕ) → 0 < length bytes → n ≤ length bytes → GoesOver (Part.Free n ∷ ps) ps bytes (drop (max n 1) bytes)
over_all n ps bytes some enough = record {
  front = take (max n 1) bytes;
  whole = sym (take-append-drop (max n 1) bytes);
  fewer = omega (arith, length-drop (max n 1) bytes);
  scanned = scan_front n ps (take (max n 1) bytes) (omega (arith, length-take (max n 1) bytes));
}

-- one byte of another part
pub over_one : (ps qs : List Part) (bytes : List ℕ) → 0 < length bytes → after_first ps (get_or bytes 0 0) ≡ Some qs → GoesOver ps qs bytes (drop 1 bytes)
over_one ps qs [] some e = absurd (omega arith)
over_one ps qs (b ∷ bytes) some e = record { front = b ∷ []; whole = refl; fewer = omega arith; scanned = scan_one ps qs b e }

-- further bytes are of a run of free ones
pub free_waits : (n : ℕ) (ps : List Part) (more : List ℕ) → length more < max n 1 → (m : ℕ) × (scan (Part.Free n ∷ ps) more ≡ Some (Part.Free m ∷ ps))
free_waits n ps [] lt = (n, scan_nil (Part.Free n ∷ ps))
free_waits n ps (b ∷ more) lt = (n - length (b ∷ more), scan_free n ps (b ∷ more) (omega arith))

-- a list that isn't empty
pub part_of : (ps : List Part) → ((ps ≡ []) → ⊥) → (q : Part) × (qs : List Part) × (ps ≡ q ∷ qs)
part_of [] h = absurd (h refl)
part_of (q ∷ qs) h = (q, qs, refl)

-- ---- where no part is to come

-- nothing comes behind the last part
over_nil : (bytes : List ℕ) → IsOver (scan [] bytes)
over_nil [] p ps e = let none : Some [] ≡ Some (p ∷ ps) = sym (scan_nil []) ∙ e in absurd cc
over_nil (b ∷ bytes) p ps e = no_more b bytes (p ∷ ps) e

-- nothing comes behind a byte that is refused, or that is the last
pub over_first : (parts : List Part) (bytes : List ℕ) → 0 < length bytes → IsOver (after_first parts (get_or bytes 0 0)) → IsOver (scan parts bytes)
over_first parts [] some over p ps e = absurd (omega arith)
over_first [] (b ∷ bytes) some over p ps e = no_more b bytes (p ∷ ps) e
over_first (q ∷ qs) (b ∷ bytes) some over p ps e = elim (known (after_byte q b)) [
  | inl n ↦
      let first : after_first (q ∷ qs) b ≡ Some (n.0 ++ qs) = rw n.1 refl in
      let left : scan (n.0 ++ qs) bytes ≡ Some (p ∷ ps) = sym (scan_step q qs b bytes n.0 n.1) ∙ e in
      let none : (n.0 ++ qs ≡ []) → ⊥ = λ is. over_nil bytes p ps (ap (λ (all : List Part). scan all bytes) (sym is) ∙ left) in
      let is = part_of (n.0 ++ qs) none in
      over is.0 is.1 (first ∙ ap (λ (all : List Part). Some all) is.2)
  | inr n ↦
      let stop : None ≡ Some (p ∷ ps) = sym (scan_stop q qs b bytes n) ∙ e in
      absurd cc
]

-- nothing comes where the first bytes are of the last part
pub over_last : (parts : List Part) (bytes rest : List ℕ) → GoesOver parts [] bytes rest → IsOver (scan parts bytes)
over_last parts bytes rest over p ps e =
    over_nil rest p ps (sym (scan_append parts [] over.front rest over.scanned) ∙ ap (λ (bs : List ℕ). scan parts bs) (sym over.whole) ∙ e)

-- nothing comes behind the bytes that were seen and those that are left
pub over_seen : (parts now : List Part) (bytes seen rest : List ℕ) → bytes ≡ seen ++ rest → scan parts seen ≡ Some now → IsOver (scan now rest) → IsOver (scan parts bytes)
over_seen parts now bytes seen rest parts_of e over p ps f =
    over p ps (sym (scan_append parts now seen rest e) ∙ ap (λ (bs : List ℕ). scan parts bs) (sym parts_of) ∙ f)
