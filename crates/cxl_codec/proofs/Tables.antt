-- The tables of kinds and of the values of fields: each value is found again by its number.
use Rattle.std.proofs.Common.{◌≡◌, Bool, true, false, List, [], ◌∷◌, Some, None, refl}
use Rattle.std.specs.Prelude.{◌==◌, find, IsTrue}
use Rattle.std.specs.List.{AllByRecursion}
use Rattle.cxl_message.specs.declared.channels.Channel.{Channel}
use Rattle.cxl_message.specs.declared.opcodes.Meta.{Meta}
use Rattle.cxl_message.specs.declared.opcodes.SnpType.{SnpType}
use Rattle.cxl_message.specs.declared.opcodes.ReqOp.{ReqOp}
use Rattle.cxl_message.specs.declared.opcodes.RspOp.{RspOp}
use Rattle.cxl_message.specs.declared.opcodes.NdrOp.{NdrOp}
use Rattle.cxl_message.specs.declared.opcodes.SnpOp.{SnpOp}
use Rattle.cxl_message.specs.declared.opcodes.Span.{Span}
use Rattle.cxl_message.specs.Channels.{has_credits}
use Rattle.cxl_message.specs.Codes.{meta_code, snoop_type_code, channel_code, span_len}
use Rattle.cxl_message.specs.Formed.{span_fits, is_block_snoop}
use Rattle.cxl_codec.specs.declared.fields.FieldName.{FieldName}
use Rattle.cxl_codec.specs.declared.kinds.CauseKind.{CauseKind}
use Rattle.cxl_codec.specs.declared.kinds.OpKind.{OpKind}
use Rattle.cxl_codec.specs.declared.kinds.ActKind.{ActKind}
use Rattle.cxl_codec.specs.declared.kinds.LineActKind.{LineActKind}
use Rattle.cxl_codec.specs.declared.kinds.TaggedActKind.{TaggedActKind}
use Rattle.cxl_codec.specs.declared.kinds.MessageKind.{MessageKind}
use Rattle.cxl_codec.specs.Cells.{kind, field}
use Rattle.cxl_codec.specs.Kinds.{cause_kind_code, cause_kinds, op_kind_code, op_kinds, act_kind_code, act_kinds, message_kind_code, message_kinds, metas, snoop_types, credit_channels}
use Rattle.cxl_codec.specs.Reading.{kind_of, meta_at, snoop_type_at, channel_at, spans_of, span_at}
use Rattle.cxl_codec.proofs.Outcomes.{Meets}
use Rattle.cxl_codec.proofs.Parts.{table_by, kind_meets, field_meets}

-- each value of a list may stand
always : {A : Type 0} (xs : List A) → AllByRecursion (λ (x : A). Unit {0}) xs
always [] = tt
always (x ∷ xs) = (tt, always xs)

-- each kind of cause is found by its number
cause_kind_again : (k : CauseKind) → Unit {0} → find (λ x. cause_kind_code x == cause_kind_code k) cause_kinds ≡ Some k
cause_kind_again CauseKind.Op fits = refl
cause_kind_again CauseKind.Take fits = refl
cause_kind_again CauseKind.Act fits = refl

-- the reader of the kind byte of a cause meets the grammar
pub cause_kind_meets : Meets (λ (k : CauseKind). Unit {0}) (λ k. kind (cause_kind_code k) ∷ []) (kind_of (λ b. find (λ k. cause_kind_code k == b) cause_kinds))
cause_kind_meets = kind_meets (λ (k : CauseKind). Unit {0}) cause_kind_code (λ b. find (λ k. cause_kind_code k == b) cause_kinds) (table_by (λ (k : CauseKind). Unit {0}) cause_kind_code cause_kinds (always cause_kinds) cause_kind_again refl (CauseKind.Op, tt))

-- each kind of operation is found by its number
op_kind_again : (k : OpKind) → Unit {0} → find (λ x. op_kind_code x == op_kind_code k) op_kinds ≡ Some k
op_kind_again OpKind.Load fits = refl
op_kind_again OpKind.Word fits = refl
op_kind_again OpKind.Whole fits = refl

-- the reader of the kind byte of an operation meets the grammar
pub op_kind_meets : Meets (λ (k : OpKind). Unit {0}) (λ k. kind (op_kind_code k) ∷ []) (kind_of (λ b. find (λ k. op_kind_code k == b) op_kinds))
op_kind_meets = kind_meets (λ (k : OpKind). Unit {0}) op_kind_code (λ b. find (λ k. op_kind_code k == b) op_kinds) (table_by (λ (k : OpKind). Unit {0}) op_kind_code op_kinds (always op_kinds) op_kind_again refl (OpKind.Load, tt))

-- each kind of act is found by its number
act_kind_again : (k : ActKind) → Unit {0} → find (λ x. act_kind_code x == act_kind_code k) act_kinds ≡ Some k
act_kind_again (ActKind.Line LineActKind.Conflict) fits = refl
act_kind_again (ActKind.Line LineActKind.WriteBack) fits = refl
act_kind_again (ActKind.Line LineActKind.Answer) fits = refl
act_kind_again (ActKind.Line LineActKind.AnswerBlock) fits = refl
act_kind_again ActKind.HostReturn fits = refl
act_kind_again (ActKind.Tagged TaggedActKind.Serve) fits = refl
act_kind_again (ActKind.Tagged TaggedActKind.Clean) fits = refl
act_kind_again (ActKind.Tagged TaggedActKind.Start) fits = refl
act_kind_again (ActKind.Tagged TaggedActKind.Evict) fits = refl
act_kind_again ActKind.Snoop fits = refl
act_kind_again (ActKind.Line LineActKind.Finish) fits = refl
act_kind_again ActKind.DeviceReturn fits = refl

-- the reader of the kind byte of an act meets the grammar
pub act_kind_meets : Meets (λ (k : ActKind). Unit {0}) (λ k. kind (act_kind_code k) ∷ []) (kind_of (λ b. find (λ k. act_kind_code k == b) act_kinds))
act_kind_meets = kind_meets (λ (k : ActKind). Unit {0}) act_kind_code (λ b. find (λ k. act_kind_code k == b) act_kinds) (table_by (λ (k : ActKind). Unit {0}) act_kind_code act_kinds (always act_kinds) act_kind_again refl (ActKind.HostReturn, tt))

-- each kind of message is found by its number
message_kind_again : (k : MessageKind) → Unit {0} → find (λ x. message_kind_code x == message_kind_code k) message_kinds ≡ Some k
message_kind_again (MessageKind.Req ReqOp.MemRd) fits = refl
message_kind_again (MessageKind.Req ReqOp.MemInv) fits = refl
message_kind_again (MessageKind.Req ReqOp.MemClnEvct) fits = refl
message_kind_again MessageKind.MemWr fits = refl
message_kind_again MessageKind.BiConflict fits = refl
message_kind_again (MessageKind.BiRsp RspOp.I) fits = refl
message_kind_again (MessageKind.BiRsp RspOp.S) fits = refl
message_kind_again (MessageKind.BiRsp RspOp.E) fits = refl
message_kind_again (MessageKind.BiRsp RspOp.IBlk) fits = refl
message_kind_again (MessageKind.BiRsp RspOp.SBlk) fits = refl
message_kind_again (MessageKind.BiRsp RspOp.EBlk) fits = refl
message_kind_again (MessageKind.Ndr NdrOp.Cmp) fits = refl
message_kind_again (MessageKind.Ndr NdrOp.CmpS) fits = refl
message_kind_again (MessageKind.Ndr NdrOp.CmpE) fits = refl
message_kind_again (MessageKind.Ndr NdrOp.ConflictAck) fits = refl
message_kind_again MessageKind.MemData fits = refl
message_kind_again (MessageKind.BiSnp SnpOp.Cur) fits = refl
message_kind_again (MessageKind.BiSnp SnpOp.Dat) fits = refl
message_kind_again (MessageKind.BiSnp SnpOp.Inv) fits = refl
message_kind_again (MessageKind.BiSnp SnpOp.CurBlk) fits = refl
message_kind_again (MessageKind.BiSnp SnpOp.DatBlk) fits = refl
message_kind_again (MessageKind.BiSnp SnpOp.InvBlk) fits = refl
message_kind_again MessageKind.Credit fits = refl

-- the reader of the kind byte of a message meets the grammar
pub message_kind_meets : Meets (λ (k : MessageKind). Unit {0}) (λ k. kind (message_kind_code k) ∷ []) (kind_of (λ b. find (λ k. message_kind_code k == b) message_kinds))
message_kind_meets = kind_meets (λ (k : MessageKind). Unit {0}) message_kind_code (λ b. find (λ k. message_kind_code k == b) message_kinds) (table_by (λ (k : MessageKind). Unit {0}) message_kind_code message_kinds (always message_kinds) message_kind_again refl (MessageKind.Req ReqOp.MemRd, tt))

-- each Meta0-State value is found by its number
meta_again : (k : Meta) → Unit {0} → find (λ x. meta_code x == meta_code k) metas ≡ Some k
meta_again Meta.Invalid fits = refl
meta_again Meta.Any fits = refl
meta_again Meta.Shared fits = refl

-- the reader of a Meta0-State value meets the grammar
pub meta_meets : Meets (λ (k : Meta). Unit {0}) (λ k. field FieldName.Meta (meta_code k) ∷ []) meta_at
meta_meets = field_meets FieldName.Meta (λ (k : Meta). Unit {0}) meta_code (λ b. find (λ k. meta_code k == b) metas) (table_by (λ (k : Meta). Unit {0}) meta_code metas (always metas) meta_again refl (Meta.Invalid, tt))

-- each snoop type is found by its number
snoop_type_again : (k : SnpType) → Unit {0} → find (λ x. snoop_type_code x == snoop_type_code k) snoop_types ≡ Some k
snoop_type_again SnpType.NoOp fits = refl
snoop_type_again SnpType.SnpData fits = refl
snoop_type_again SnpType.SnpCur fits = refl
snoop_type_again SnpType.SnpInv fits = refl

-- the reader of a snoop type meets the grammar
pub snoop_type_meets : Meets (λ (k : SnpType). Unit {0}) (λ k. field FieldName.SnpType (snoop_type_code k) ∷ []) snoop_type_at
snoop_type_meets = field_meets FieldName.SnpType (λ (k : SnpType). Unit {0}) snoop_type_code (λ b. find (λ k. snoop_type_code k == b) snoop_types) (table_by (λ (k : SnpType). Unit {0}) snoop_type_code snoop_types (always snoop_types) snoop_type_again refl (SnpType.NoOp, tt))

-- each channel with credits is found by its number
channel_again : (c : Channel) → IsTrue (has_credits c) → find (λ x. channel_code x == channel_code c) credit_channels ≡ Some c
channel_again Channel.Req fits = refl
channel_again Channel.Rwd fits = refl
channel_again Channel.BiRsp fits = refl
channel_again Channel.Ndr fits = refl
channel_again Channel.Drs fits = refl
channel_again Channel.BiSnp fits = refl
channel_again Channel.CreditUp fits = absurd cc
channel_again Channel.CreditDown fits = absurd cc

-- the reader of a channel meets the grammar
pub channel_meets : Meets (λ c. IsTrue (has_credits c)) (λ c. field FieldName.Channel (channel_code c) ∷ []) channel_at
channel_meets =
    field_meets FieldName.Channel (λ c. IsTrue (has_credits c)) channel_code (λ b. find (λ c. channel_code c == b) credit_channels)
    (table_by (λ c. IsTrue (has_credits c)) channel_code credit_channels (refl, (refl, (refl, (refl, (refl, (refl, tt)))))) channel_again refl (Channel.Req, refl))

-- each span that fits is found by its length
span_again : (block : Bool) (s : Span) → IsTrue (span_fits block s) → find (λ x. span_len x == span_len s) (spans_of block) ≡ Some s
span_again false Span.One fits = refl
span_again false Span.Two fits = absurd cc
span_again false Span.Four fits = absurd cc
span_again true Span.One fits = absurd cc
span_again true Span.Two fits = refl
span_again true Span.Four fits = refl

-- each span of the table fits
spans_fit : (block : Bool) → AllByRecursion (λ s. IsTrue (span_fits block s)) (spans_of block)
spans_fit false = (refl, tt)
spans_fit true = (refl, (refl, tt))

-- no span has the number 256, which is no byte
spans_end : (block : Bool) → find (λ s. span_len s == 256) (spans_of block) ≡ None
spans_end false = refl
spans_end true = refl

-- some span fits
some_span : (block : Bool) → (s : Span) × IsTrue (span_fits block s)
some_span false = (Span.One, refl)
some_span true = (Span.Two, refl)

-- the reader of a span meets the grammar
pub span_meets : (op : SnpOp) → Meets (λ s. IsTrue (span_fits (is_block_snoop op) s)) (λ s. field FieldName.Span (span_len s) ∷ []) (span_at op)
span_meets op =
    let block : Bool = is_block_snoop op in
    field_meets FieldName.Span (λ s. IsTrue (span_fits block s)) span_len (λ b. find (λ s. span_len s == b) (spans_of block))
    (table_by (λ s. IsTrue (span_fits block s)) span_len (spans_of block) (spans_fit block) (span_again block) (spans_end block) (some_span block))
