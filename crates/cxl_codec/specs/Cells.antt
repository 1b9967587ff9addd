-- Records byte by byte: each byte with what stands there. Every rule here is an own rule.
use Rattle.std.specs.Prelude.{ℕ, List, map}
use Rattle.std.specs.Int.{Width, to_be_bytes}
use Rattle.cxl_message.specs.declared.identifiers.Bytes64.{Bytes64}
use Rattle.cxl_codec.specs.declared.fields.FieldName.{FieldName}

-- what stands at a byte: a kind byte, a field of this name, or a byte of which every value is allowed
pub data Label : Type 0 where
  kind_byte : Label
  named : FieldName → Label
  unnamed : Label

-- a byte of a record, and what stands there
pub record Cell : Type 0 where
  pub byte : ℕ
  pub label : Label

-- the bytes of some cells
abbrev pub bytes_of : List Cell → List ℕ
bytes_of cells = map (λ c. c.byte) cells

-- a kind byte
abbrev pub kind : ℕ → Cell
kind byte = record { byte = byte; label = kind_byte }

-- a byte of a field with a name
abbrev pub field : FieldName → ℕ → Cell
field name byte = record { byte = byte; label = named name }

-- a byte of which every value is allowed
abbrev pub free : ℕ → Cell
free byte = record { byte = byte; label = unnamed }

-- a number of this width, the highest byte first
abbrev pub number : Width → ℕ → List Cell
number w n = map free (to_be_bytes w n)

-- 64 bytes, each of any value
abbrev pub payload : Bytes64 → List Cell
payload bytes = map free bytes.0
