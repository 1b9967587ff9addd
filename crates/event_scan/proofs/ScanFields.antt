-- The parts of the readers of single fields.
use Rattle.std.proofs.Common.{◌≡◌, ℕ, zero, suc, ◌-◌, ◌≤◌, Bool, true, false, cond, List, [], ◌∷◌, Option, Some, None, refl, sym, ap, subst, ◌∙◌, arith, inl, inr, ◌⊎◌}
use Rattle.std.specs.Prelude.{◌&&◌, ◌==◌, ◌||◌, find, nat_le, nat_lt}
use Rattle.std.specs.Int.{w16, w32, w64, from_be_bytes}
use Rattle.std.proofs.lemmas.Bool.{leb-true, eqb-true, and_parts, lt-ltb}
use Rattle.cxl_message.specs.declared.channels.Channel.{Channel}
use Rattle.cxl_message.specs.declared.opcodes.Meta.{Meta}
use Rattle.cxl_message.specs.declared.opcodes.SnpType.{SnpType}
use Rattle.cxl_message.specs.declared.opcodes.SnpOp.{SnpOp}
use Rattle.cxl_message.specs.declared.opcodes.Span.{Span}
use Rattle.cxl_message.specs.Codes.{meta_code, snoop_type_code, channel_code, span_len}
use Rattle.cxl_codec.specs.declared.fields.FieldName.{FieldName}
use Rattle.cxl_codec.specs.declared.faults.Fault.{Fault}
use Rattle.event_scan.specs.declared.scans.Part.{Part}
use Rattle.cxl_codec.specs.Kinds.{metas, snoop_types, credit_channels}
use Rattle.cxl_codec.specs.Reading.{field_of, within, number_at, payload_at, bytes_at, run_at, meta_at, snoop_type_at, channel_at, spans_of, span_at}
use Rattle.event_scan.specs.Scanning.{span_part, after_byte}
use Rattle.event_scan.proofs.Follows.{Follows, IsTableOf, follows_done, follows_end, follows_table, follows_byte, follows_block}

-- ---- bytes within limits

-- a test that was passed
pub passed : {X : Type 0} (t : Bool) (x next : X) → cond t (Some x) None ≡ Some next → (t ≡ true) × (next ≡ x)
passed true x next e = (refl, cc)
passed false x next e = absurd cc

-- a byte within limits
limits_of : (least most b : ℕ) (next : List Part) → after_byte (Part.Within least most) b ≡ Some next → (least ≤ b) × (b ≤ most) × (next ≡ [])
limits_of least most b next e =
    let p = passed (nat_le least b && nat_le b most) [] next e in
    let both = and_parts (nat_le least b) (nat_le b most) p.0 in
    (leb-true least b both.0, leb-true b most both.1, p.1)

-- a number within limits
within_value : (least most b : ℕ) (next : List Part) → after_byte (Part.Within least most) b ≡ Some next → (n : ℕ) × (within least most b ≡ Some n) × (next ≡ [])
within_value least most b next e =
    let p = passed (nat_le least b && nat_le b most) [] next e in
    (b, rw p.0 refl, p.1)

-- the byte of a number within limits
within_parts : (least most b n : ℕ) → within least most b ≡ Some n → after_byte (Part.Within least most) b ≡ Some []
within_parts least most b n e = let p = passed (nat_le least b && nat_le b most) b n e in rw p.0 refl

-- the numbers within limits
within_table : (least most : ℕ) → IsTableOf (Part.Within least most) (within least most) (λ n. [])
within_table least most = record { value_at = within_value least most; parts_at = within_parts least most }

-- the reader of a field that is a number within limits
pub within_follows : (which : FieldName) (least most : ℕ) → Follows (Part.Within least most ∷ []) (field_of which (within least most))
within_follows which least most = follows_byte (Part.Within least most) (λ left. Fault.Field left which) (within least most) (within_table least most)

-- what a test says
said : (t : Bool) → (t ≡ true) ⊎ (t ≡ false)
said true = inl refl
said false = inr refl

-- what a table finds has the number
found_code : {A : Type 0} (code : A → ℕ) (xs : List A) (b : ℕ) (a : A) → find (λ x. code x == b) xs ≡ Some a → code a ≡ b
found_code code [] b a e = absurd cc
found_code code (x ∷ xs) b a e = elim (said (code x == b)) [
  | inl t ↦
      let here : find (λ y. code y == b) (x ∷ xs) ≡ Some x = rw t refl in
      let both : Some x ≡ Some a = sym here ∙ e in
      let same : x ≡ a = cc in
      ap code (sym same) ∙ eqb-true (code x) b t
  | inr f ↦
      let further : find (λ y. code y == b) (x ∷ xs) ≡ find (λ y. code y == b) xs = rw f refl in
      found_code code xs b a (sym further ∙ e)
]

-- the number of each value that a table finds is one that the part can have
found_parts : {A : Type 0} (p : Part) (code : A → ℕ) (xs : List A) → ((a : A) → find (λ x. code x == code a) xs ≡ Some a → after_byte p (code a) ≡ Some [])
    → (b : ℕ) (a : A) → find (λ x. code x == b) xs ≡ Some a → after_byte p b ≡ Some []
found_parts p code xs each b a e =
    let same : code a ≡ b = found_code code xs b a e in
    subst (λ (n : ℕ). after_byte p n ≡ Some []) same (each a (subst (λ (n : ℕ). find (λ x. code x == n) xs ≡ Some a) (sym same) e))

-- a table that knows each number within limits
Knows : {A : Type 0} → (ℕ → Option A) → ℕ → Type 0
Knows {A} table b = (a : A) × (table b ≡ Some a)

-- each Meta0-State value
meta_known : (b : ℕ) → b ≤ 2 → Knows (λ b. find (λ m. meta_code m == b) metas) b
unfolding Knows
meta_known zero h = (Meta.Invalid, refl)
meta_known (suc zero) h = (Meta.Any, refl)
meta_known (suc (suc zero)) h = (Meta.Shared, refl)
meta_known (suc (suc (suc b))) h = absurd (omega arith)

-- the number of each Meta0-State value
meta_parts : (a : Meta) → find (λ m. meta_code m == meta_code a) metas ≡ Some a → after_byte (Part.Within 0 2) (meta_code a) ≡ Some []
meta_parts Meta.Invalid e = refl
meta_parts Meta.Any e = refl
meta_parts Meta.Shared e = refl

-- the reader of a Meta0-State value
pub meta_follows : Follows (Part.Within 0 2 ∷ []) meta_at
unfolding Knows
meta_follows = follows_byte (Part.Within 0 2) (λ left. Fault.Field left FieldName.Meta) (λ b. find (λ m. meta_code m == b) metas) (record {
  value_at = λ b next e.
      let l = limits_of 0 2 b next e in
      let k = meta_known b l.1 in
      (k.0, k.1, l.2);
  parts_at = found_parts (Part.Within 0 2) meta_code metas meta_parts;
})

-- each snoop type
snoop_type_known : (b : ℕ) → b ≤ 3 → Knows (λ b. find (λ s. snoop_type_code s == b) snoop_types) b
unfolding Knows
snoop_type_known zero h = (SnpType.NoOp, refl)
snoop_type_known (suc zero) h = (SnpType.SnpData, refl)
snoop_type_known (suc (suc zero)) h = (SnpType.SnpCur, refl)
snoop_type_known (suc (suc (suc zero))) h = (SnpType.SnpInv, refl)
snoop_type_known (suc (suc (suc (suc b)))) h = absurd (omega arith)

-- the number of each snoop type
snoop_type_parts : (a : SnpType) → find (λ s. snoop_type_code s == snoop_type_code a) snoop_types ≡ Some a → after_byte (Part.Within 0 3) (snoop_type_code a) ≡ Some []
snoop_type_parts SnpType.NoOp e = refl
snoop_type_parts SnpType.SnpData e = refl
snoop_type_parts SnpType.SnpCur e = refl
snoop_type_parts SnpType.SnpInv e = refl

-- the reader of a snoop type
pub snoop_type_follows : Follows (Part.Within 0 3 ∷ []) snoop_type_at
unfolding Knows
snoop_type_follows = follows_byte (Part.Within 0 3) (λ left. Fault.Field left FieldName.SnpType) (λ b. find (λ s. snoop_type_code s == b) snoop_types) (record {
  value_at = λ b next e.
      let l = limits_of 0 3 b next e in
      let k = snoop_type_known b l.1 in
      (k.0, k.1, l.2);
  parts_at = found_parts (Part.Within 0 3) snoop_type_code snoop_types snoop_type_parts;
})

-- each channel with credits
channel_known : (b : ℕ) → 1 ≤ b → b ≤ 6 → Knows (λ b. find (λ c. channel_code c == b) credit_channels) b
unfolding Knows
channel_known zero g h = absurd (omega arith)
channel_known (suc zero) g h = (Channel.Req, refl)
channel_known (suc (suc zero)) g h = (Channel.Rwd, refl)
channel_known (suc (suc (suc zero))) g h = (Channel.BiRsp, refl)
channel_known (suc (suc (suc (suc zero)))) g h = (Channel.Ndr, refl)
channel_known (suc (suc (suc (suc (suc zero))))) g h = (Channel.Drs, refl)
channel_known (suc (suc (suc (suc (suc (suc zero)))))) g h = (Channel.BiSnp, refl)
channel_known (suc (suc (suc (suc (suc (suc (suc b))))))) g h = absurd (omega arith)

-- the number of each channel with credits
channel_parts : (a : Channel) → find (λ c. channel_code c == channel_code a) credit_channels ≡ Some a → after_byte (Part.Within 1 6) (channel_code a) ≡ Some []
channel_parts Channel.Req e = refl
channel_parts Channel.Rwd e = refl
channel_parts Channel.BiRsp e = refl
channel_parts Channel.Ndr e = refl
channel_parts Channel.Drs e = refl
channel_parts Channel.BiSnp e = refl
channel_parts Channel.CreditUp e = absurd cc
channel_parts Channel.CreditDown e = absurd cc

-- the reader of a channel with credits
pub channel_follows : Follows (Part.Within 1 6 ∷ []) channel_at
unfolding Knows
channel_follows = follows_byte (Part.Within 1 6) (λ left. Fault.Field left FieldName.Channel) (λ b. find (λ c. channel_code c == b) credit_channels) (record {
  value_at = λ b next e.
      let l = limits_of 1 6 b next e in
      let k = channel_known b l.0 l.1 in
      (k.0, k.1, l.2);
  parts_at = found_parts (Part.Within 1 6) channel_code credit_channels channel_parts;
})

-- the span of a snoop of one line
single_known : (b : ℕ) → 1 ≤ b → b ≤ 1 → Knows (λ b. find (λ s. span_len s == b) (spans_of false)) b
unfolding Knows
single_known zero g h = absurd (omega arith)
single_known (suc zero) g h = (Span.One, refl)
single_known (suc (suc b)) g h = absurd (omega arith)

-- the number of the span of a snoop of one line
single_parts : (a : Span) → find (λ s. span_len s == span_len a) (spans_of false) ≡ Some a → after_byte (Part.Within 1 1) (span_len a) ≡ Some []
single_parts Span.One e = refl
single_parts Span.Two e = absurd cc
single_parts Span.Four e = absurd cc

-- the reader of the span of a snoop of one line
single_follows : Follows (Part.Within 1 1 ∷ []) (field_of FieldName.Span (λ b. find (λ s. span_len s == b) (spans_of false)))
unfolding Knows
single_follows = follows_byte (Part.Within 1 1) (λ left. Fault.Field left FieldName.Span) (λ b. find (λ s. span_len s == b) (spans_of false)) (record {
  value_at = λ b next e.
      let l = limits_of 1 1 b next e in
      let k = single_known b l.0 l.1 in
      (k.0, k.1, l.2);
  parts_at = found_parts (Part.Within 1 1) span_len (spans_of false) single_parts;
})

-- the span of a block
block_known : (b : ℕ) (two four : Bool) → b == 2 ≡ two → b == 4 ≡ four → two || four ≡ true → Knows (λ b. find (λ s. span_len s == b) (spans_of true)) b
unfolding Knows
block_known b true four p q h = (Span.Two, rw (eqb-true b 2 p) refl)
block_known b false true p q h = (Span.Four, rw (eqb-true b 4 q) refl)
block_known b false false p q h = absurd cc

-- the number of each span of a block
block_parts : (a : Span) → find (λ s. span_len s == span_len a) (spans_of true) ≡ Some a → after_byte Part.BlockSpan (span_len a) ≡ Some []
block_parts Span.One e = absurd cc
block_parts Span.Two e = refl
block_parts Span.Four e = refl

-- the reader of the span of a block
block_follows : Follows (Part.BlockSpan ∷ []) (field_of FieldName.Span (λ b. find (λ s. span_len s == b) (spans_of true)))
unfolding Knows
block_follows = follows_byte Part.BlockSpan (λ left. Fault.Field left FieldName.Span) (λ b. find (λ s. span_len s == b) (spans_of true)) (record {
  value_at = λ b next e.
      let l = passed (b == 2 || b == 4) [] next e in
      let k = block_known b (b == 2) (b == 4) refl refl l.0 in
      (k.0, k.1, l.1);
  parts_at = found_parts Part.BlockSpan span_len (spans_of true) block_parts;
})

-- the reader of the span of a snoop
pub span_follows : (op : SnpOp) → Follows (span_part op ∷ []) (span_at op)
span_follows SnpOp.Cur = single_follows
span_follows SnpOp.Dat = single_follows
span_follows SnpOp.Inv = single_follows
span_follows SnpOp.CurBlk = block_follows
span_follows SnpOp.DatBlk = block_follows
span_follows SnpOp.InvBlk = block_follows

-- ---- numbers, payloads and zeros

-- the reader of a number of two bytes
pub tag_follows : Follows (Part.Free 2 ∷ []) (number_at w16)
tag_follows = follows_end (Part.Free 2 ∷ []) _ (from_be_bytes w16) (follows_block 1)

-- of four bytes
pub line_follows : Follows (Part.Free 4 ∷ []) (number_at w32)
line_follows = follows_end (Part.Free 4 ∷ []) _ (from_be_bytes w32) (follows_block 3)

-- of eight bytes
pub value_follows : Follows (Part.Free 8 ∷ []) (number_at w64)
value_follows = follows_end (Part.Free 8 ∷ []) _ (from_be_bytes w64) (follows_block 7)

-- the reader of 64 bytes
pub payload_follows : Follows (Part.Free 64 ∷ []) payload_at
payload_follows = follows_end (Part.Free 64 ∷ []) _ (λ bs. record { 0 = bs }) (follows_block 63)

-- the zeros after one of so many
zeros_left : ℕ → List Part
zeros_left zero = []
zeros_left (suc n) = Part.Zeros (suc n) ∷ []

-- the zeros after the first
left_by : (n : ℕ) (t : Bool) (next : List Part) → nat_lt 1 (suc n) ≡ t → cond t (Some (Part.Zeros (suc n - 1) ∷ [])) (Some []) ≡ Some next → next ≡ zeros_left n
unfolding zeros_left
left_by zero true next e f = absurd cc
left_by zero false next e f = cc
left_by (suc n) true next e f = let less : suc (suc n) - 1 ≡ suc n = omega arith in subst (λ (k : ℕ). next ≡ Part.Zeros k ∷ []) less cc
left_by (suc n) false next e f = let yes : nat_lt 1 (suc (suc n)) ≡ true = lt-ltb 1 (suc (suc n)) (omega arith) in absurd cc

-- a zero, if the byte is one
zero_by : (n b : ℕ) (t : Bool) (rest : Option (List Part)) (next : List Part) → (b == 0) ≡ t → cond t rest None ≡ Some next → (within 0 0 b ≡ Some 0) × (rest ≡ Some next)
zero_by n b true rest next e f = let none : b ≡ 0 = eqb-true b 0 e in (rw none refl, f)
zero_by n b false rest next e f = absurd cc

-- the number zero, and the zeros after it
zero_value : (n b : ℕ) (next : List Part) → after_byte (Part.Zeros (suc n)) b ≡ Some next → (m : ℕ) × (within 0 0 b ≡ Some m) × (next ≡ zeros_left n)
zero_value n b next e =
    let z = zero_by n b (b == 0) (cond (nat_lt 1 (suc n)) (Some (Part.Zeros (suc n - 1) ∷ [])) (Some [])) next refl e in
    (0, z.0, left_by n (nat_lt 1 (suc n)) next refl z.1)

-- the only number up to zero
within_zero : (b a : ℕ) → within 0 0 b ≡ Some a → b ≡ 0
within_zero b a e =
    let p = passed (nat_le 0 b && nat_le b 0) b a e in
    let both = and_parts (nat_le 0 b) (nat_le b 0) p.0 in
    omega (arith, leb-true b 0 both.1)

-- after a zero the other zeros are to come
zero_parts : (n b : ℕ) (a : ℕ) → within 0 0 b ≡ Some a → after_byte (Part.Zeros (suc n)) b ≡ Some (zeros_left n)
unfolding zeros_left
zero_parts zero b a e =
    let none : b ≡ 0 = within_zero b a e in
    rw none refl
zero_parts (suc n) b a e =
    let none : b ≡ 0 = within_zero b a e in
    let less : suc (suc n) - 1 ≡ suc n = omega arith in
    rw (none, lt-ltb 1 (suc (suc n)) (omega arith), less) refl

-- the zero of a run of zeros
zero_table : (n : ℕ) → IsTableOf (Part.Zeros (suc n)) (within 0 0) (λ a. zeros_left n)
zero_table n = record { value_at = zero_value n; parts_at = zero_parts n }

-- the reader of a run of zeros
pub zeros_follow : (which : FieldName) (n : ℕ) → Follows (Part.Zeros (suc n) ∷ []) (run_at which 0 (suc n))
unfolding bytes_at zeros_left
zeros_follow which zero = follows_table (Part.Zeros 1) (λ left. Fault.Field left which) (within 0 0) (λ a. zeros_left zero) _ (zero_table zero) (λ a. follows_done (a ∷ []))
zeros_follow which (suc n) =
    follows_table (Part.Zeros (suc (suc n))) (λ left. Fault.Field left which) (within 0 0) (λ a. zeros_left (suc n)) _ (zero_table (suc n))
    (λ a. follows_end (Part.Zeros (suc n) ∷ []) (run_at which 0 (suc n)) (λ others. a ∷ others) (zeros_follow which n))
