-- Reading from left to right, with the first fault that is met. No public clause cites this file: the grammar decides.
use Rattle.std.specs.Prelude.{◌≡◌, ℕ, zero, suc, ◌==◌, ◌&&◌, List, [], ◌∷◌, length, take, drop, Option, Some, None, Result, Ok, Err, Bool, true, false, nat_lt, nat_le, find, if◌then◌else◌}
use Rattle.std.specs.Option.{option_map_or}
use Rattle.std.specs.Int.{Width, byte_len, from_be_bytes}
use Rattle.cxl_message.specs.declared.channels.Channel.{Channel}
use Rattle.cxl_message.specs.declared.identifiers.Bytes64.{Bytes64}
use Rattle.cxl_message.specs.declared.opcodes.Meta.{Meta}
use Rattle.cxl_message.specs.declared.opcodes.SnpType.{SnpType}
use Rattle.cxl_message.specs.declared.opcodes.SnpOp.{SnpOp}
use Rattle.cxl_message.specs.declared.opcodes.Span.{Span}
use Rattle.cxl_message.specs.Codes.{meta_code, snoop_type_code, channel_code, span_len}
use Rattle.cxl_message.specs.Formed.{is_block_snoop}
use Rattle.cxl_message.specs.Names.{is_name_byte}
use Rattle.cxl_codec.specs.declared.fields.FieldName.{FieldName}
use Rattle.cxl_codec.specs.declared.faults.Fault.{Fault}
use Rattle.cxl_codec.specs.Kinds.{metas, snoop_types, credit_channels}

-- a value and the bytes after it, or the first fault
abbrev pub Read : Type 0 → Type 0
Read A = Result (A × List ℕ) Fault

infixl 10 ◌>>=◌
-- one read after another, as long as none fails
abbrev pub ◌>>=◌ : {A B : Type 0} → Read A → (A × List ℕ → Read B) → Read B
(Ok x) >>= f = f x
(Err e) >>= f = Err e

-- what a function returned, seen by view, is what reading gives
abbrev pub Gives : {X Y : Type 0} → (X → Y × List ℕ) → Result X Fault → Read Y → Type 0
Gives view (Ok x) read = read ≡ Ok (view x)
Gives view (Err e) read = read ≡ Err e

-- a byte that a table turns into a value
abbrev pub one : {A : Type 0} → (ℕ → Fault) → (ℕ → Option A) → List ℕ → Read A
one fault table [] = Err Fault.Short
one fault table (b ∷ rest) = option_map_or (λ a. Ok (a, rest)) (table b) (Err (fault (suc (length rest))))

-- a kind byte
abbrev pub kind_of : {A : Type 0} → (ℕ → Option A) → List ℕ → Read A
kind_of table = one Fault.Kind table

-- a byte of a field with a name
abbrev pub field_of : {A : Type 0} → FieldName → (ℕ → Option A) → List ℕ → Read A
field_of which table = one (λ left. Fault.Field left which) table

-- the number itself, if it is within these limits
abbrev pub within : ℕ → ℕ → ℕ → Option ℕ
within least most b = if nat_le least b && nat_le b most then Some b else None

-- so many bytes of any value
abbrev pub block_at : ℕ → List ℕ → Read (List ℕ)
block_at n bytes = if nat_lt (length bytes) n then Err Fault.Short else Ok (take n bytes, drop n bytes)

-- a number of this width, the highest byte first
abbrev pub number_at : Width → List ℕ → Read ℕ
number_at w bytes = do
  block ← block_at (byte_len w) bytes
  Ok (from_be_bytes w block.0, block.1)

-- a byte of any value
abbrev pub free_at : List ℕ → Read ℕ
free_at [] = Err Fault.Short
free_at (b ∷ rest) = Ok (b, rest)

-- 64 bytes
abbrev pub payload_at : List ℕ → Read Bytes64
payload_at bytes = do
  block ← block_at 64 bytes
  Ok (record { 0 = block.0 }, block.1)

-- so many bytes of a field, each of them one that the table has
unfoldable pub bytes_at : FieldName → (ℕ → Option ℕ) → ℕ → List ℕ → Read (List ℕ)
bytes_at which table zero bytes = Ok ([], bytes)
bytes_at which table (suc n) bytes = do
  first ← field_of which table bytes
  others ← bytes_at which table n first.1
  Ok (first.0 ∷ others.0, others.1)

-- so many bytes of a field, none of them above the limit
abbrev pub run_at : FieldName → ℕ → ℕ → List ℕ → Read (List ℕ)
run_at which most n bytes = bytes_at which (within 0 most) n bytes

-- the byte itself, if it may stand in a name
abbrev pub letter : ℕ → Option ℕ
letter b = if is_name_byte b then Some b else None

-- the spans of a block, or of a single line
abbrev pub spans_of : Bool → List Span
spans_of false = Span.One ∷ []
spans_of true = Span.Two ∷ Span.Four ∷ []

-- a Meta0-State value
abbrev pub meta_at : List ℕ → Read Meta
meta_at bytes = field_of FieldName.Meta (λ b. find (λ m. meta_code m == b) metas) bytes

-- a snoop type
abbrev pub snoop_type_at : List ℕ → Read SnpType
snoop_type_at bytes = field_of FieldName.SnpType (λ b. find (λ s. snoop_type_code s == b) snoop_types) bytes

-- a channel with credits
abbrev pub channel_at : List ℕ → Read Channel
channel_at bytes = field_of FieldName.Channel (λ b. find (λ c. channel_code c == b) credit_channels) bytes

-- the span of a snoop
abbrev pub span_at : SnpOp → List ℕ → Read Span
span_at op bytes = field_of FieldName.Span (λ b. find (λ s. span_len s == b) (spans_of (is_block_snoop op))) bytes
