-- Reading a run of bytes one after the other, as a loop does.
use Rattle.std.proofs.Common.{◌≡◌, ℕ, suc, ◌-◌, ◌+◌, ◌≤◌, ◌<◌, List, [], ◌∷◌, ◌++◌, length, get_or, take, drop, Some, None, Ok, Err, refl, sym, ap, ◌∙◌, append_assoc, arith, rules, tests}
use Rattle.std.proofs.lemmas.List.{append-nil, drop_more, take_more, drop_all, length-drop}
use Rattle.cxl_codec.specs.declared.fields.FieldName.{FieldName}
use Rattle.cxl_codec.specs.declared.faults.Fault.{Fault}
use Rattle.cxl_message.specs.Names.{is_name_byte}
use Rattle.std.specs.Prelude.{Option, true, false}
use Rattle.cxl_codec.specs.Reading.{Read, ◌>>=◌, within, bytes_at, letter}

-- what was read before, and what is still read
abbrev pub with_front : List ℕ → Read (List ℕ) → Read (List ℕ)
with_front front read = read >>= λ x. Ok (front ++ x.0, x.1)

-- a byte within the limit is taken
pub taken : (most b : ℕ) → b ≤ most → within 0 most b ≡ Some b
taken most b h = search (tests, rules)

-- a byte above the limit is not
pub refused : (most b : ℕ) → most < b → within 0 most b ≡ None
refused most b h = search (tests, rules)

-- a byte that may stand in a name is taken
pub letter_taken : (b : ℕ) → is_name_byte b ≡ true → letter b ≡ Some b
letter_taken b h = rw h refl

-- another one is not
pub letter_refused : (b : ℕ) → is_name_byte b ≡ false → letter b ≡ None
letter_refused b h = rw h refl

-- what was read before takes in one more byte
regroup : (front : List ℕ) (b : ℕ) (read : Read (List ℕ)) → with_front front (read >>= λ x. Ok (b ∷ x.0, x.1)) ≡ with_front (front ++ b ∷ []) read
regroup front b (Ok x) = ap (λ (bs : List ℕ). Ok (bs, x.1)) (simp append_assoc)
regroup front b (Err f) = refl

-- one step over a good byte
run_step : (which : FieldName) (table : ℕ → Option ℕ) (n b : ℕ) (rest : List ℕ) → table b ≡ Some b → bytes_at which table (suc n) (b ∷ rest) ≡ (bytes_at which table n rest >>= λ x. Ok (b ∷ x.0, x.1))
unfolding bytes_at
run_step which table n b rest h = rw h refl

-- one step onto a bad byte
run_wrong : (which : FieldName) (table : ℕ → Option ℕ) (n b : ℕ) (rest : List ℕ) → table b ≡ None → bytes_at which table (suc n) (b ∷ rest) ≡ Err (Fault.Field (suc (length rest)) which)
unfolding bytes_at
run_wrong which table n b rest h = rw h refl

module _ (which : FieldName) (table : ℕ → Option ℕ) (count i : ℕ) (bytes : List ℕ) (total : Read (List ℕ)) where
  -- the loop goes on over a good byte
  pub goes_on : i < count → i < length bytes → table (get_or bytes i 0) ≡ Some (get_or bytes i 0)
      → with_front (take i bytes) (bytes_at which table (count - i) (drop i bytes)) ≡ total
      → with_front (take (i + 1) bytes) (bytes_at which table (count - (i + 1)) (drop (i + 1) bytes)) ≡ total
  goes_on lt in_bytes good so_far =
      let k : count - i ≡ suc (count - (i + 1)) = omega arith in
      let one : with_front (take i bytes) (bytes_at which table (count - i) (drop i bytes)) ≡ with_front (take (i + 1) bytes) (bytes_at which table (count - (i + 1)) (drop (i + 1) bytes)) =
      rw (k, drop_more bytes i 0 in_bytes, run_step which table (count - (i + 1)) (get_or bytes i 0) (drop (i + 1) bytes) good, take_more bytes i 0 in_bytes) (regroup (take i bytes) (get_or bytes i 0) (bytes_at which table (count - (i + 1)) (drop (i + 1) bytes))) in
      sym one ∙ so_far

  -- the loop ends where the bytes end
  pub ends_short : i < count → length bytes ≤ i → with_front (take i bytes) (bytes_at which table (count - i) (drop i bytes)) ≡ total → total ≡ Err Fault.Short
  unfolding bytes_at
  ends_short lt past so_far =
      let k : count - i ≡ suc (count - (i + 1)) = omega arith in
      let one : with_front (take i bytes) (bytes_at which table (count - i) (drop i bytes)) ≡ Err Fault.Short = rw (k, drop_all i bytes past) refl in
      sym so_far ∙ one

  -- the loop ends at a bad byte
  pub ends_wrong : i < count → i < length bytes → table (get_or bytes i 0) ≡ None
      → with_front (take i bytes) (bytes_at which table (count - i) (drop i bytes)) ≡ total → total ≡ Err (Fault.Field (length bytes - i) which)
  ends_wrong lt in_bytes bad so_far =
      let k : count - i ≡ suc (count - (i + 1)) = omega arith in
      let left : suc (length (drop (i + 1) bytes)) ≡ length bytes - i = omega (arith, ap (length {A = ℕ}) (drop_more bytes i 0 in_bytes), length-drop i bytes) in
      let one : with_front (take i bytes) (bytes_at which table (count - i) (drop i bytes)) ≡ Err (Fault.Field (length bytes - i) which) =
      rw (k, drop_more bytes i 0 in_bytes, run_wrong which table (count - (i + 1)) (get_or bytes i 0) (drop (i + 1) bytes) bad, left) refl in
      sym so_far ∙ one

  -- the loop ends with the whole run
  pub is_done : count ≤ i → with_front (take i bytes) (bytes_at which table (count - i) (drop i bytes)) ≡ total → total ≡ Ok (take i bytes, drop i bytes)
  unfolding bytes_at
  is_done le so_far =
      let k : count - i ≡ 0 = omega arith in
      let one : with_front (take i bytes) (bytes_at which table (count - i) (drop i bytes)) ≡ Ok (take i bytes, drop i bytes) = rw k (ap (λ (bs : List ℕ). Ok (bs, drop i bytes)) (append-nil (take i bytes))) in
      sym so_far ∙ one

-- the two parts, cut at a count that is the same
pub done_at : (total : Read (List ℕ)) (i count : ℕ) (bytes front : List ℕ) (back : List ℕ) → i ≡ count → front ≡ take count bytes → back ≡ drop count bytes
    → total ≡ Ok (take i bytes, drop i bytes) → total ≡ Ok (front, back)
done_at total i count bytes front back e p q h = rw (p, q, ← e) h
