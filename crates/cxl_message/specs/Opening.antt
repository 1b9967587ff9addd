-- What memory holds before the first event: pairs of a line and its bytes. Every rule here is an own rule.
use Rattle.std.specs.Prelude.{ℕ, Bool, true, List, [], ◌∷◌, Option, Some, None, ◌+◌, ◌-◌, ◌&&◌, ◌==◌, not, nat_lt, nat_le, IsTrue, if◌then◌else◌, length, replicate, find, slice_get}
use Rattle.std.specs.List.{list_all}
use Rattle.std.specs.Option.{option_map_or}
use Rattle.cxl_message.specs.declared.openings.OpeningRefusal.{OpeningRefusal}
use Rattle.cxl_message.specs.declared.identifiers.Line.{Line}
use Rattle.cxl_message.specs.declared.identifiers.Bytes64.{Bytes64}
use Rattle.cxl_message.specs.Codes.{bytes_eq}

-- 64 zero bytes
abbrev pub zero_bytes : Bytes64
zero_bytes = record { 0 = replicate 64 0 }

-- the opening's bytes of a line: zeros where the line isn't among its pairs
abbrev pub bytes_at : List (Line × Bytes64) → ℕ → Bytes64
bytes_at opening a = option_map_or (λ p. p.1) (find (λ p. p.0.0 == a) opening) zero_bytes

-- whether a line is greater than the last one of an opening
abbrev pub is_after_last : List (Line × Bytes64) → ℕ → Bool
is_after_last opening a = option_map_or (λ p. nat_lt p.0.0 a) (slice_get opening (length opening - 1)) true

-- why a line and its bytes can't be added to an opening, want of memory aside: Order, then Zero
abbrev pub opening_refusal : List (Line × Bytes64) → ℕ → Bytes64 → Option OpeningRefusal
opening_refusal opening a bytes =
    if not (is_after_last opening a) then Some OpeningRefusal.Order else (if bytes_eq bytes zero_bytes then Some OpeningRefusal.Zero else None)

-- whether the lines ascend, each greater than the one before and the first of them at least so great
abbrev pub ascends_from : ℕ → List (Line × Bytes64) → Bool
ascends_from least [] = true
ascends_from least (p ∷ ps) = nat_le least p.0.0 && ascends_from (p.0.0 + 1) ps

-- an opening: its lines ascend, and none of them is all zeros
pub record IsOpening (pairs : List (Line × Bytes64)) : Type 0 where
  pub ascending : IsTrue (ascends_from 0 pairs)
  pub not_zero : IsTrue (list_all (λ p. not (bytes_eq p.1 zero_bytes)) pairs)

-- whether each line of an opening is one of so many lines
abbrev pub opening_fits : ℕ → List (Line × Bytes64) → Bool
opening_fits lines opening = list_all (λ p. nat_lt p.0.0 lines) opening
