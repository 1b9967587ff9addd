-- What a reader that meets the grammar answers: records, cuts and first wrong bytes.
use Rattle.std.proofs.Common.{◌≡◌, ℕ, suc, ◌+◌, ◌-◌, ◌<◌, ◌≤◌, List, [], ◌∷◌, ◌++◌, length, get_or, take, drop, Some, Ok, Err, refl, sym, ap, subst, ◌∙◌, append_assoc, arith}
use Rattle.std.specs.Prelude.{IsErr, slice_get}
use Rattle.std.proofs.lemmas.List.{append-nil, length-append, length-map, take_at, take-append-drop}
use Rattle.std.proofs.lemmas.List.Elements.{All-from_get_or}
use Rattle.cxl_codec.specs.declared.faults.Fault.{Fault}
use Rattle.cxl_codec.specs.Cells.{Label, kind_byte, named, Cell, bytes_of}
use Rattle.cxl_codec.specs.Grammar.{BeginsWith, IsCutShort, IsFirstWrong, Refuses}
use Rattle.cxl_codec.specs.Refusals.{LeavesAtMost, refusal_of}
use Rattle.cxl_codec.specs.Reading.{Read}
use Rattle.cxl_codec.proofs.Outcomes.{IsBytes, Found, Cut, Wrong, Outcome, Spells, Meets, bytes_of-append}

-- bytes as the checker knows them
pub bytes_from : (bytes : List ℕ) → ((i : ℕ) → get_or bytes i 0 < 256) → IsBytes bytes
bytes_from bytes h = All-from_get_or (λ b. b < 256) bytes 0 (λ i lt. h i)

-- cells have as many bytes
pub length-bytes_of : (cells : List Cell) → length (bytes_of cells) ≡ length cells
length-bytes_of cells = length-map cells (λ (c : Cell). c.byte)

-- the cell behind a front
cell_at : (front : List Cell) (here : Cell) (after : List Cell) → slice_get (front ++ here ∷ after) (length front) ≡ Some here
cell_at [] here after = refl
cell_at (c ∷ front) here after = cell_at front here after

-- the bytes up to and including a place
through_place : (bytes front : List ℕ) (b : ℕ) (rest : List ℕ) (at : ℕ) → bytes ≡ front ++ b ∷ rest → at ≡ length front → take (at + 1) bytes ≡ front ++ b ∷ []
through_place bytes front b rest at parts place =
    let grouped : bytes ≡ (front ++ b ∷ []) ++ rest = parts ∙ sym (append_assoc front (b ∷ []) rest) in
    rw grouped (take_at (front ++ b ∷ []) rest (at + 1) (omega (arith, place, length-append front (b ∷ []))))

module _ {V : Type 0} (Fits : V → Type 0) (cells_of : V → List Cell) (reads : List ℕ → Read V) (meets : Meets Fits cells_of reads) where
  -- what is spelled is read, whatever follows
  pub read_again : (v : V) → Fits v → (rest : List ℕ) → reads (bytes_of (cells_of v) ++ rest) ≡ Ok (v, rest)
  read_again v fits rest = (meets.complete v fits).again rest

  -- what is spelled is read where nothing follows
  read_alone : (v : V) → Fits v → reads (bytes_of (cells_of v)) ≡ Ok (v, [])
  read_alone v fits = ap reads (sym (append-nil (bytes_of (cells_of v)))) ∙ read_again v fits []

  -- a value that is read
  found_is : (bytes : List ℕ) (v : V) (rest : List ℕ) → Found (Spells Fits cells_of) bytes v rest → BeginsWith Fits cells_of bytes v (length bytes - length rest)
  found_is bytes v rest o =
      let front : List ℕ = bytes_of (cells_of v) in
      let parts : bytes ≡ front ++ rest = o.parts ∙ ap (λ (cs : List Cell). bytes_of cs ++ rest) o.spelled.1 in
      let whole : length bytes - length rest ≡ length front = omega (arith, ap (length {A = ℕ}) parts, length-append front rest) in
      record {
        fits = o.spelled.0;
        spelled = rw parts (take_at front rest (length (front ++ rest) - length rest) (omega (arith, length-append front rest)));
        whole = whole ∙ length-bytes_of (cells_of v);
      }

  -- bytes that end too early
  cut_is : (bytes : List ℕ) → Cut (Spells Fits cells_of) bytes → IsCutShort Fits cells_of bytes
  cut_is bytes o = record { value = o.value; fits = o.spelled.0; next = o.next; more = o.more; spelled = ap bytes_of (sym o.spelled.1) ∙ o.goes_on }

  -- a byte that is refused
  wrong_is : (bytes : List ℕ) (left : ℕ) (label : Label) → Wrong (Spells Fits cells_of) reads bytes left label → IsFirstWrong Fits cells_of bytes (length bytes - left) label
  wrong_is bytes left label o =
      let front : List ℕ = bytes_of o.front in
      let parts : bytes ≡ front ++ o.byte ∷ o.rest = o.parts in
      let long : length bytes ≡ length front + suc (length o.rest) = ap (length {A = ℕ}) parts ∙ length-append front (o.byte ∷ o.rest) in
      let place : length bytes - left ≡ length front = omega (arith, long, o.count) in
      let spelling : bytes_of (cells_of o.value) ≡ front ++ bytes_of (o.here ∷ o.after) = ap bytes_of (sym o.spelled.1) ∙ bytes_of-append o.front (o.here ∷ o.after) in
      record {
        within = omega (arith, place, long);
        expected = record {
          value = o.value;
          fits = o.spelled.0;
          before = rw (place, spelling, parts) (take_at front (bytes_of (o.here ∷ o.after)) (length front) refl ∙ sym (take_at front (o.byte ∷ o.rest) (length front) refl));
          there = rw (place, length-bytes_of o.front, ← o.spelled.1, cell_at o.front o.here o.after) (ap (λ (l : Label). Some l) o.there);
        };
        wrong = λ v fits e.
            let through : take (length bytes - left + 1) bytes ≡ front ++ o.byte ∷ [] = through_place bytes front o.byte o.rest (length bytes - left) parts place in
            let begins : bytes_of (cells_of v) ≡ front ++ o.byte ∷ drop (length bytes - left + 1) (bytes_of (cells_of v)) =
            sym (take-append-drop (length bytes - left + 1) (bytes_of (cells_of v))) ∙ ap (λ (bs : List ℕ). bs ++ drop (length bytes - left + 1) (bytes_of (cells_of v))) (e ∙ through) ∙ append_assoc front (o.byte ∷ []) (drop (length bytes - left + 1) (bytes_of (cells_of v))) in
            let err : IsErr (reads (bytes_of (cells_of v))) = subst (λ (bs : List ℕ). IsErr (reads bs)) (sym begins) (o.refuses (drop (length bytes - left + 1) (bytes_of (cells_of v)))) in
            let ok : IsErr {T = V × List ℕ} {E = Fault} (Ok (v, [])) = subst (λ (r : Read V). IsErr r) (read_alone v fits) err in
            absurd cc;
      }

  -- a byte that is refused is one of the bytes
  wrong_within : (bytes : List ℕ) (left : ℕ) (label : Label) → Wrong (Spells Fits cells_of) reads bytes left label → left ≤ length bytes
  wrong_within bytes left label o = omega (arith, o.count, ap (length {A = ℕ}) o.parts, length-append (bytes_of o.front) (o.byte ∷ o.rest))

  -- what an Ok means
  pub found : (bytes : List ℕ) → IsBytes bytes → (v : V) (rest : List ℕ) → reads bytes ≡ Ok (v, rest) → BeginsWith Fits cells_of bytes v (length bytes - length rest)
  found bytes each v rest e = found_is bytes v rest (subst (λ (r : Read V). Outcome (Spells Fits cells_of) reads bytes r) e (meets.sound bytes each))

  -- each fault, by its outcome
  refused_by : (bytes : List ℕ) (fault : Fault) → Outcome (Spells Fits cells_of) reads bytes (Err fault) → Refuses Fits cells_of bytes (refusal_of (length bytes) fault) × LeavesAtMost (length bytes) fault
  refused_by bytes Fault.Short o = (cut_is bytes o, tt)
  refused_by bytes (Fault.Kind left) o = (wrong_is bytes left kind_byte o, wrong_within bytes left kind_byte o)
  refused_by bytes (Fault.Field left which) o = (wrong_is bytes left (named which) o, wrong_within bytes left (named which) o)

  -- what an Err means
  pub refused : (bytes : List ℕ) → IsBytes bytes → (fault : Fault) → reads bytes ≡ Err fault → Refuses Fits cells_of bytes (refusal_of (length bytes) fault) × LeavesAtMost (length bytes) fault
  refused bytes each fault e = refused_by bytes fault (subst (λ (r : Read V). Outcome (Spells Fits cells_of) reads bytes r) e (meets.sound bytes each))

  -- what is left is part of the bytes
  pub rest_shorter : (bytes : List ℕ) → IsBytes bytes → (v : V) (rest : List ℕ) → reads bytes ≡ Ok (v, rest) → length rest ≤ length bytes
  rest_shorter bytes each v rest e =
      let o : Found (Spells Fits cells_of) bytes v rest = subst (λ (r : Read V). Outcome (Spells Fits cells_of) reads bytes r) e (meets.sound bytes each) in
      omega (arith, ap (length {A = ℕ}) o.parts, length-append (bytes_of o.cells) rest)
