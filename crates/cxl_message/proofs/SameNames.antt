-- A name comes back from its number, so equal numbers name the same.
use Rattle.std.proofs.Common.{◌≡◌, ℕ, true, IsTrue, List, cond, refl, sym, ◌∙◌, ap}
use Rattle.std.specs.Prelude.{nat_eq}
use Rattle.std.proofs.lemmas.Bool.{eqb-true, eq-eqb}
use Rattle.std.proofs.lemmas.Slice.Eq.{bytes_eq-Decides}
use lib.Pointwise.{pointwise}
use Rattle.cxl_message.specs.declared.channels.Channel.{Channel}
use Rattle.cxl_message.specs.declared.identifiers.Bytes64.{Bytes64}
use Rattle.cxl_message.specs.declared.opcodes.Meta.{Meta}
use Rattle.cxl_message.specs.declared.opcodes.SnpType.{SnpType}
use Rattle.cxl_message.specs.declared.opcodes.Span.{Span}
use Rattle.cxl_message.specs.Codes.{bytes_eq, channel_code, channel_eq, meta_code, snoop_type_code, span_len}

-- lists that are the same number by number are the same
pub pointwise-same : (xs ys : List ℕ) → pointwise nat_eq xs ys ≡ true → xs ≡ ys
pointwise-same xs ys h = (bytes_eq-Decides xs ys).0 h

pub same-pointwise : (xs ys : List ℕ) → xs ≡ ys → pointwise nat_eq xs ys ≡ true
same-pointwise xs ys h = (bytes_eq-Decides xs ys).1 h

-- the Meta0-State value with a number
abbrev pub meta_from : ℕ → Meta
meta_from k = cond (nat_eq k 0) Meta.Invalid (cond (nat_eq k 1) Meta.Any Meta.Shared)

pub meta-back : (x : Meta) → meta_from (meta_code x) ≡ x
meta-back Meta.Invalid = refl
meta-back Meta.Any = refl
meta-back Meta.Shared = refl

-- the snoop type with a number
abbrev pub snoop_type_from : ℕ → SnpType
snoop_type_from k = cond (nat_eq k 0) SnpType.NoOp (cond (nat_eq k 1) SnpType.SnpData (cond (nat_eq k 2) SnpType.SnpCur SnpType.SnpInv))

pub snoop_type-back : (x : SnpType) → snoop_type_from (snoop_type_code x) ≡ x
snoop_type-back SnpType.NoOp = refl
snoop_type-back SnpType.SnpData = refl
snoop_type-back SnpType.SnpCur = refl
snoop_type-back SnpType.SnpInv = refl

-- the span with a number of lines
abbrev pub span_from : ℕ → Span
span_from k = cond (nat_eq k 1) Span.One (cond (nat_eq k 2) Span.Two Span.Four)

pub span-back : (x : Span) → span_from (span_len x) ≡ x
span-back Span.One = refl
span-back Span.Two = refl
span-back Span.Four = refl

-- the channel with a number
abbrev pub channel_from : ℕ → Channel
channel_from k =
    cond (nat_eq k 1) Channel.Req (cond (nat_eq k 2) Channel.Rwd (cond (nat_eq k 3) Channel.BiRsp (cond (nat_eq k 4) Channel.Ndr
    (cond (nat_eq k 5) Channel.Drs (cond (nat_eq k 6) Channel.BiSnp (cond (nat_eq k 7) Channel.CreditUp Channel.CreditDown))))))

pub channel-back : (x : Channel) → channel_from (channel_code x) ≡ x
channel-back Channel.Req = refl
channel-back Channel.Rwd = refl
channel-back Channel.BiRsp = refl
channel-back Channel.Ndr = refl
channel-back Channel.Drs = refl
channel-back Channel.BiSnp = refl
channel-back Channel.CreditUp = refl
channel-back Channel.CreditDown = refl

-- channels with the same number are the same
pub channel_eq-same : (c d : Channel) → IsTrue (channel_eq c d) → c ≡ d
channel_eq-same c d h = sym (channel-back c) ∙ ap channel_from (eqb-true _ _ h) ∙ channel-back d

pub same-channel_eq : (c d : Channel) → c ≡ d → IsTrue (channel_eq c d)
same-channel_eq c d h = eq-eqb _ _ (ap channel_code h)

-- lines with the same bytes are the same
pub bytes_eq-same : (x y : Bytes64) → IsTrue (bytes_eq x y) → x ≡ y
bytes_eq-same x y h = ap {B = Bytes64} (λ bytes. record { 0 = bytes }) (pointwise-same x.0 y.0 h)

pub same-bytes_eq : (x y : Bytes64) → x ≡ y → IsTrue (bytes_eq x y)
same-bytes_eq x y h = same-pointwise x.0 y.0 (ap (λ (z : Bytes64). z.0) h)
