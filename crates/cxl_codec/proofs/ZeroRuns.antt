-- A run of zeros at the front of some bytes is read whole.
use Rattle.std.proofs.Common.{◌≡◌, ℕ, zero, suc, Bool, true, false, List, [], ◌∷◌, ◌++◌, take, drop, length, cond, refl, sym, ap, ◌∙◌}
use Rattle.std.specs.Prelude.{replicate, Ok, Err, nat_lt}
use Rattle.std.proofs.lemmas.List.{take-append-drop}
use Rattle.cxl_message.specs.declared.identifiers.Bytes64.{Bytes64}
use Rattle.cxl_codec.specs.declared.fields.FieldName.{FieldName}
use Rattle.cxl_codec.specs.declared.faults.Fault.{Fault}
use Rattle.cxl_codec.specs.Reading.{Read, ◌>>=◌, payload_at, bytes_at, run_at}

-- so many zeros, whatever follows them
zeros-run : (which : FieldName) (n : ℕ) (rest : List ℕ) → run_at which 0 n (replicate n 0 ++ rest) ≡ Ok (replicate n 0, rest)
unfolding bytes_at
zeros-run which zero rest = refl
zeros-run which (suc n) rest = ap (λ others. others >>= (λ o. Ok (0 ∷ o.0, o.1))) (zeros-run which n rest)

-- the bytes of a payload that was read, and those behind it
front_of : Read Bytes64 → List ℕ
front_of (Ok read) = read.0.0
front_of (Err fault) = []

rest_of : Read Bytes64 → List ℕ
rest_of (Ok read) = read.1
rest_of (Err fault) = []

-- together they are all of the bytes
payload-front : (short : Bool) (bytes front rest : List ℕ) → ◌≡◌ {A = Read Bytes64} ((cond short (Err Fault.Short) (Ok (take 64 bytes, drop 64 bytes))) >>= (λ block. Ok (record { 0 = block.0 }, block.1))) (Ok (record { 0 = front }, rest)) → bytes ≡ front ++ rest
unfolding front_of rest_of
payload-front true bytes front rest read = absurd cc
payload-front false bytes front rest read =
    sym (take-append-drop 64 bytes) ∙ ap (λ f. f ++ drop 64 bytes) (ap front_of read) ∙ ap (λ r. front ++ r) (ap rest_of read)

-- 64 zeros at the front
pub zeros_read : (which : FieldName) (front rest bytes : List ℕ) → front ≡ replicate 64 0 → payload_at bytes ≡ Ok (record { 0 = front }, rest) → run_at which 0 64 bytes ≡ Ok (front, rest)
zeros_read which front rest bytes zeros read =
    ap (run_at which 0 64) (payload-front (nat_lt (length bytes) 64) bytes front rest read ∙ ap (λ f. f ++ rest) zeros) ∙ zeros-run which 64 rest ∙ ap (λ f. Ok (f, rest)) (sym zeros)
