-- Reading the words of a line, as the parser does.
use Rattle.std.specs.Prelude.{ℕ, Bool, List, [], ◌∷◌, Option, Some, None, ◌+◌, ◌-◌, ◌*◌, ◌&&◌, ◌||◌, ◌==◌, not, nat_lt, nat_le, if◌then◌else◌, length, take, drop, slice_index}
use Rattle.std.specs.List.{position}
use Rattle.std.specs.Option.{option_map, option_and_then}
use Rattle.std.specs.Str.{all_ascii_digits}
use Rattle.std.specs.Str.Parse.{digits_value}
use Rattle.cxl_message.specs.Names.{is_name}

infixl 10 ◌>>=◌
abbrev pub ◌>>=◌ : {A B : Type 0} → Option A → (A → Option B) → Option B
o >>= f = option_and_then f o

-- what comes before the first such byte, and what comes after it
unfoldable pub parts_at : ℕ → List ℕ → Option (List ℕ × List ℕ)
parts_at byte bytes = option_map (λ place. (take place bytes, drop (place + 1) bytes)) (position (λ b. b == byte) bytes)

-- whether these are one to ten decimal digits, with no leading zero but in `0`
abbrev pub are_digits : List ℕ → Bool
are_digits word =
    not ((length word == 0) || nat_lt 10 (length word)) && not (nat_lt 1 (length word) && (slice_index word 0 == 48)) && all_ascii_digits word

-- the number that a word is
unfoldable pub number_in : List ℕ → Option ℕ
number_in word = if are_digits word then Some (digits_value 10 word) else None

-- the name that a word is
abbrev pub name_in : List ℕ → Option (List ℕ)
name_in word = if is_name word then Some word else None

-- the value of a hexadecimal digit in lower case
unfoldable pub digit_in : ℕ → Option ℕ
digit_in byte = if nat_le 48 byte && nat_le byte 57 then Some (byte - 48) else (if nat_le 97 byte && nat_le byte 102 then Some (byte - 87) else None)

-- the byte that two hexadecimal digits are
unfoldable pub byte_in : ℕ → ℕ → Option ℕ
byte_in high low = do
  h ← digit_in high
  l ← digit_in low
  Some (16 * h + l)

-- the bytes that hexadecimal digits are
abbrev pub bytes_in : List ℕ → Option (List ℕ)
bytes_in [] = Some []
bytes_in (high ∷ []) = None
bytes_in (high ∷ low ∷ word) = byte_in high low >>= λ byte. bytes_in word >>= λ bytes. Some (byte ∷ bytes)

-- the same of so many bytes
unfoldable pub just_bytes_in : ℕ → List ℕ → Option (List ℕ)
just_bytes_in n word = if length word == 2 * n then bytes_in word else None
