-- What several reads or writes, one after the other, do to known bytes.
use Rattle.std.proofs.Common.{◌≡◌, ℕ, ◌+◌, ◌-◌, ◌<◌, ◌≤◌, List, [], ◌++◌, None, Some, min, length, take, drop, sym, ap, subst, ◌∙◌, arith, length-append, length-drop, take-append-drop}
use Rattle.std.proofs.Math.Seq.{take-add, drop-append_seam, take-append_seam}
use Rattle.std.proofs.lemmas.List.{length-take-le, drop-drop}
use Rattle.std.proofs.Math.ListN.{drop_of_length-le}
use Rattle.std.proofs.KnownBytes.{Appends-trans, Consumes-trans}
use Rattle.std.specs.declared.option.Option.{Option}
use Rattle.std.specs.Io.KnownBytes.{Appends, Consumes}
use Rattle.outside_io.specs.Whole.{Loses, LosesOver, LosesWithin}

-- the next bytes of a list go after its first ones
pub Appends-take : (a b c : Option (List ℕ)) (bytes rest : List ℕ) (n m : ℕ) → Appends a b (take n bytes) → Appends b c (take m rest) → rest ≡ drop n bytes → Appends a c (take (n + m) bytes)
Appends-take a b c bytes rest n m first second is =
    subst (Appends a c) (ap (λ l. take n bytes ++ take m l) is ∙ sym (take-add n m bytes)) (Appends-trans a b c _ _ first second)

-- bytes that were consumed are the first of what was left
pub Loses-length : (a b : Option (List ℕ)) (bytes : List ℕ) → Consumes a b bytes → Loses a b (length bytes)
Loses-length None b bytes came = tt
Loses-length (Some xs) None bytes came = absurd came
Loses-length (Some xs) (Some ys) bytes came =
    (omega (arith, length-append bytes ys, ap length came), ap Some (sym (ap (drop (length bytes)) came ∙ drop-append_seam bytes ys)))

-- a read gave more than the limit still allowed
pub LosesOver_more : (limit n : ℕ) (a b c : Option (List ℕ)) (bytes piece : List ℕ) → Consumes a b bytes → Consumes b c (take n piece) → n ≤ length piece → limit - length bytes < n → LosesOver limit a c
LosesOver_more limit n a b c bytes piece came more fits over =
    let size : length (bytes ++ take n piece) ≡ length bytes + n = length-append bytes (take n piece) ∙ ap (λ m. length bytes + m) (length-take-le n piece fits) in
    (length (bytes ++ take n piece), omega arith, Loses-length a c _ (Consumes-trans a b c _ _ came more))

-- a read gave no more than the limit still allowed
pub LosesWithin_more : (limit n : ℕ) (a b c : Option (List ℕ)) (bytes piece : List ℕ) → Consumes a b bytes → Consumes b c (take n piece) → n ≤ length piece → length bytes + n ≤ limit → LosesWithin limit a c
LosesWithin_more limit n a b c bytes piece came more fits within =
    let size : length (bytes ++ take n piece) ≡ length bytes + n = length-append bytes (take n piece) ∙ ap (λ m. length bytes + m) (length-take-le n piece fits) in
    (length (bytes ++ take n piece), omega arith, Loses-length a c _ (Consumes-trans a b c _ _ came more))

-- a read that copies the first bytes of what is left consumes them, and gives none only where nothing is left or nothing is wanted
read_front : (left into : List ℕ) (chunk n : ℕ) → n ≡ min (min chunk (length into)) (length left) → 0 < chunk
    → (left ≡ take n (take n left ++ drop n into) ++ drop n left) × (n ≡ 0 → 0 < length (take n left ++ drop n into) → drop n left ≡ [])
read_front left into chunk n e some =
    let fits : n ≤ length left = omega arith in
    let size : length (take n left) ≡ n = length-take-le n left fits in
    let front : take n (take n left ++ drop n into) ≡ take n left =
    subst (λ m. take m (take n left ++ drop n into) ≡ take n left) size (take-append_seam (take n left) (drop n into)) in (
      sym (ap (λ l. l ++ drop n left) front ∙ take-append-drop n left),
      λ none wanted.
          let parts : length (take n left ++ drop n into) ≡ length (take n left) + length (drop n into) = length-append (take n left) (drop n into) in
          let behind : length (drop n into) ≡ length into - n = length-drop n into in
          let ends : length left ≤ n = omega arith in
          drop_of_length-le left ends,
    )

-- the same, where what is left begins at a place in some bytes, and `rest` is what is read of them there
pub read_at : (left bytes rest copied into : List ℕ) (at chunk n : ℕ) → drop at bytes ≡ left → rest ≡ left → copied ≡ take n rest → n ≡ min (min chunk (length into)) (length rest) → 0 < chunk
    → (left ≡ take n (copied ++ drop n into) ++ drop (at + n) bytes) × (n ≡ 0 → 0 < length (copied ++ drop n into) → drop (at + n) bytes ≡ [])
read_at left bytes rest copied into at chunk n here whole copy count some =
    let same : length rest ≡ length left = ap length whole in
    let found : (left ≡ take n (take n left ++ drop n into) ++ drop n left) × (n ≡ 0 → 0 < length (take n left ++ drop n into) → drop n left ≡ []) =
    read_front left into chunk n (omega arith) some in
    let copy' : take n left ≡ copied = sym (copy ∙ ap (take n) whole) in
    let after : drop n left ≡ drop (at + n) bytes = ap (drop n) (sym here) ∙ drop-drop n at bytes in
    subst (λ front. (left ≡ take n (front ++ drop n into) ++ drop (at + n) bytes) × (n ≡ 0 → 0 < length (front ++ drop n into) → drop (at + n) bytes ≡ [])) copy'
    (subst (λ behind. (left ≡ take n (take n left ++ drop n into) ++ behind) × (n ≡ 0 → 0 < length (take n left ++ drop n into) → behind ≡ [])) after found)
