-- Names of streams: pairs of a stream and its name. Every rule here is an own rule.
use Rattle.std.specs.Prelude.{ℕ, Bool, true, List, [], ◌∷◌, Option, Some, None, ◌+◌, ◌-◌, ◌&&◌, ◌||◌, ◌==◌, not, nat_lt, nat_le, IsTrue, if◌then◌else◌, length, find, slice_get, option_map}
use Rattle.std.specs.List.{list_all}
use Rattle.std.specs.Option.{option_map_or}
use Rattle.cxl_message.specs.declared.limits.TheConstants.{MAX_NAME_LEN}
use Rattle.cxl_message.specs.declared.names.NameRefusal.{NameRefusal}

-- a byte that a name may have: a lower-case letter, a digit or `_`
abbrev pub is_name_byte : ℕ → Bool
is_name_byte byte = (nat_le 97 byte && nat_le byte 122) || ((nat_le 48 byte && nat_le byte 57) || byte == 95)

-- whether bytes spell a name: 1 to 32 of the bytes that a name may have
abbrev pub is_name : List ℕ → Bool
is_name name = (nat_le 1 (length name) && nat_le (length name) MAX_NAME_LEN) && list_all is_name_byte name

-- whether a stream is greater than the last one that has a name
abbrev pub is_after_last_named : List (ℕ × List ℕ) → ℕ → Bool
is_after_last_named names stream = option_map_or (λ p. nat_lt p.0 stream) (slice_get names (length names - 1)) true

-- why a stream's name can't be added, want of memory aside: Order, then Spelling
abbrev pub name_refusal : List (ℕ × List ℕ) → ℕ → List ℕ → Option NameRefusal
name_refusal names stream name =
    if not (is_after_last_named names stream) then Some NameRefusal.Order else (if is_name name then None else Some NameRefusal.Spelling)

-- whether the streams ascend, each greater than the one before and the first of them at least so great
abbrev pub names_ascend_from : ℕ → List (ℕ × List ℕ) → Bool
names_ascend_from least [] = true
names_ascend_from least (p ∷ ps) = nat_le least p.0 && names_ascend_from (p.0 + 1) ps

-- names of streams: the streams ascend, and each name is spelled as a name
pub record AreNames (names : List (ℕ × List ℕ)) : Type 0 where
  pub ascending : IsTrue (names_ascend_from 0 names)
  pub spelled : IsTrue (list_all (λ p. is_name p.1) names)

-- the name of a stream, if it has one
abbrev pub name_of : List (ℕ × List ℕ) → ℕ → Option (List ℕ)
name_of names stream = option_map (λ p. p.1) (find (λ p. p.0 == stream) names)

-- whether each stream that has a name is one of so many streams
abbrev pub names_fit : ℕ → List (ℕ × List ℕ) → Bool
names_fit streams names = list_all (λ p. nat_lt p.0 streams) names
