-- What reading a record at the front of some bytes can meet, for any kind of record. Every rule here is an own rule.
use Rattle.std.specs.Prelude.{◌≡◌, ℕ, ◌+◌, ◌<◌, List, ◌∷◌, ◌++◌, length, take, Some, Result, Ok, Err, slice_get, option_map}
use Rattle.cxl_codec.specs.declared.refusals.DecodeRefusal.{DecodeRefusal}
use Rattle.cxl_codec.specs.Cells.{Label, kind_byte, named, Cell, bytes_of}

-- the first n bytes are the record of this value, which fits
pub record BeginsWith {V : Type 0} (Fits : V → Type 0) (cells_of : V → List Cell) (bytes : List ℕ) (value : V) (n : ℕ) : Type 0 where
  pub fits : Fits value
  pub spelled : take n bytes ≡ bytes_of (cells_of value)
  pub whole : n ≡ length (cells_of value)

-- the bytes are a proper prefix of the record of some value that fits
pub record IsCutShort {V : Type 0} (Fits : V → Type 0) (cells_of : V → List Cell) (bytes : List ℕ) : Type 0 where
  pub value : V
  pub fits : Fits value
  pub next : ℕ
  pub more : List ℕ
  pub spelled : bytes_of (cells_of value) ≡ bytes ++ next ∷ more

-- the record of some value that fits has the bytes before this place, and this label there
pub record Expects {V : Type 0} (Fits : V → Type 0) (cells_of : V → List Cell) (bytes : List ℕ) (at : ℕ) (label : Label) : Type 0 where
  pub value : V
  pub fits : Fits value
  pub before : take at (bytes_of (cells_of value)) ≡ take at bytes
  pub there : option_map (λ c. c.label) (slice_get (cells_of value) at) ≡ Some label

-- the byte at this place is the first that no record can have after the bytes before it, and this label stands there
pub record IsFirstWrong {V : Type 0} (Fits : V → Type 0) (cells_of : V → List Cell) (bytes : List ℕ) (at : ℕ) (label : Label) : Type 0 where
  pub within : at < length bytes
  pub expected : Expects Fits cells_of bytes at label
  pub wrong : (value : V) → Fits value → take (at + 1) (bytes_of (cells_of value)) ≡ take (at + 1) bytes → ⊥

-- what a refusal says of the bytes
abbrev pub Refuses : {V : Type 0} → (V → Type 0) → (V → List Cell) → List ℕ → DecodeRefusal → Type 0
Refuses Fits cells_of bytes DecodeRefusal.Short = IsCutShort Fits cells_of bytes
Refuses Fits cells_of bytes (DecodeRefusal.Kind at) = IsFirstWrong Fits cells_of bytes at kind_byte
Refuses Fits cells_of bytes (DecodeRefusal.Field at which) = IsFirstWrong Fits cells_of bytes at (named which)

-- what an answer says of the bytes: a value with the length of its record, or a refusal
abbrev pub Answers : {V : Type 0} → (V → Type 0) → (V → List Cell) → List ℕ → Result (V × ℕ) DecodeRefusal → Type 0
Answers Fits cells_of bytes (Ok found) = BeginsWith Fits cells_of bytes found.0 found.1
Answers Fits cells_of bytes (Err refusal) = Refuses Fits cells_of bytes refusal

-- the bytes of a record determine its value, whatever follows, so no record is a proper prefix of another
abbrev pub HasOneSpelling : {V : Type 0} → (V → Type 0) → (V → List Cell) → Type 0
HasOneSpelling {V} Fits cells_of = (v w : V) (x y : List ℕ) → Fits v → Fits w → bytes_of (cells_of v) ++ x ≡ bytes_of (cells_of w) ++ y → (v ≡ w) × (x ≡ y)

-- bytes have at most one answer
abbrev pub HasOneAnswer : {V : Type 0} → (V → Type 0) → (V → List Cell) → Type 0
HasOneAnswer {V} Fits cells_of = (bytes : List ℕ) (a b : Result (V × ℕ) DecodeRefusal) → Answers Fits cells_of bytes a → Answers Fits cells_of bytes b → a ≡ b

-- a record answers its own value and its length, whatever follows
abbrev pub IsReadAgain : {V : Type 0} → (V → Type 0) → (V → List Cell) → Type 0
IsReadAgain {V} Fits cells_of = (v : V) (rest : List ℕ) → Fits v → Answers Fits cells_of (bytes_of (cells_of v) ++ rest) (Ok (v, length (cells_of v)))
