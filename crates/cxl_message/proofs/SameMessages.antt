-- A message comes back from its key, so messages with the same key are the same.
use Rattle.std.proofs.Common.{◌≡◌, ℕ, IsTrue, List, cond, drop, get_or, refl, sym, ◌∙◌, ap}
use Rattle.std.specs.Prelude.{nat_eq, nat_lt}
use Rattle.cxl_message.specs.declared.messages.Message.{Message}
use Rattle.cxl_message.specs.declared.opcodes.NdrOp.{NdrOp}
use Rattle.cxl_message.specs.declared.opcodes.ReqOp.{ReqOp}
use Rattle.cxl_message.specs.declared.opcodes.RspOp.{RspOp}
use Rattle.cxl_message.specs.declared.opcodes.SnpOp.{SnpOp}
use Rattle.cxl_message.specs.Messages.{message_eq, message_key}
use Rattle.cxl_message.proofs.SameNames.{channel-back, channel_from, meta-back, meta_from, pointwise-same, same-pointwise, snoop_type-back, snoop_type_from, span-back, span_from}

abbrev request_from : ℕ → ReqOp
request_from k = cond (nat_eq k 1) ReqOp.MemRd (cond (nat_eq k 2) ReqOp.MemInv ReqOp.MemClnEvct)

abbrev response_from : ℕ → RspOp
response_from k =
    cond (nat_eq k 0x21) RspOp.I (cond (nat_eq k 0x22) RspOp.S (cond (nat_eq k 0x23) RspOp.E
    (cond (nat_eq k 0x24) RspOp.IBlk (cond (nat_eq k 0x25) RspOp.SBlk RspOp.EBlk))))

abbrev completion_from : ℕ → NdrOp
completion_from k = cond (nat_eq k 0x31) NdrOp.Cmp (cond (nat_eq k 0x32) NdrOp.CmpS (cond (nat_eq k 0x33) NdrOp.CmpE NdrOp.ConflictAck))

abbrev snoop_from : ℕ → SnpOp
snoop_from k =
    cond (nat_eq k 0x51) SnpOp.Cur (cond (nat_eq k 0x52) SnpOp.Dat (cond (nat_eq k 0x53) SnpOp.Inv
    (cond (nat_eq k 0x54) SnpOp.CurBlk (cond (nat_eq k 0x55) SnpOp.DatBlk SnpOp.InvBlk))))

-- the message with a kind and fields
abbrev from_fields : ℕ → List ℕ → Message
from_fields k fs =
    cond (nat_lt k 0x11) (Message.Req (request_from k) (meta_from (get_or fs 0 0)) (snoop_type_from (get_or fs 1 0)) (record { 0 = get_or fs 2 0 }) (record { 0 = get_or fs 3 0 }))
    (cond (nat_lt k 0x12) (Message.MemWr (meta_from (get_or fs 0 0)) (snoop_type_from (get_or fs 1 0)) (record { 0 = get_or fs 2 0 }) (record { 0 = get_or fs 3 0 }) (record { 0 = drop 4 fs }))
    (cond (nat_lt k 0x21) (Message.BiConflict (record { 0 = get_or fs 0 0 }))
    (cond (nat_lt k 0x31) (Message.BiRsp (response_from k) (record { 0 = get_or fs 0 0 }) (get_or fs 1 0))
    (cond (nat_lt k 0x41) (Message.Ndr (completion_from k) (record { 0 = get_or fs 0 0 }))
    (cond (nat_lt k 0x51) (Message.MemData (record { 0 = get_or fs 0 0 }) (record { 0 = drop 1 fs }))
    (cond (nat_lt k 0x61) (Message.BiSnp (snoop_from k) (record { 0 = get_or fs 0 0 }) (record { 0 = get_or fs 1 0 }) (span_from (get_or fs 2 0)))
    (Message.Credit (channel_from (get_or fs 0 0)))))))))

-- the message with a key
abbrev from_key : List ℕ → Message
from_key key = from_fields (get_or key 0 0) (drop 1 key)

-- a message comes back from its key
pub message-back : (m : Message) → from_key (message_key m) ≡ m
message-back (Message.Req ReqOp.MemRd meta snp tag line) = cc (meta-back meta, snoop_type-back snp)
message-back (Message.Req ReqOp.MemInv meta snp tag line) = cc (meta-back meta, snoop_type-back snp)
message-back (Message.Req ReqOp.MemClnEvct meta snp tag line) = cc (meta-back meta, snoop_type-back snp)
message-back (Message.MemWr meta snp tag line bytes) = cc (meta-back meta, snoop_type-back snp)
message-back (Message.BiConflict tag) = refl
message-back (Message.BiRsp RspOp.I bitag low) = refl
message-back (Message.BiRsp RspOp.S bitag low) = refl
message-back (Message.BiRsp RspOp.E bitag low) = refl
message-back (Message.BiRsp RspOp.IBlk bitag low) = refl
message-back (Message.BiRsp RspOp.SBlk bitag low) = refl
message-back (Message.BiRsp RspOp.EBlk bitag low) = refl
message-back (Message.Ndr NdrOp.Cmp tag) = refl
message-back (Message.Ndr NdrOp.CmpS tag) = refl
message-back (Message.Ndr NdrOp.CmpE tag) = refl
message-back (Message.Ndr NdrOp.ConflictAck tag) = refl
message-back (Message.MemData tag bytes) = refl
message-back (Message.BiSnp SnpOp.Cur bitag line span) = ap {B = Message} (λ x. Message.BiSnp SnpOp.Cur bitag line x) (span-back span)
message-back (Message.BiSnp SnpOp.Dat bitag line span) = ap {B = Message} (λ x. Message.BiSnp SnpOp.Dat bitag line x) (span-back span)
message-back (Message.BiSnp SnpOp.Inv bitag line span) = ap {B = Message} (λ x. Message.BiSnp SnpOp.Inv bitag line x) (span-back span)
message-back (Message.BiSnp SnpOp.CurBlk bitag line span) = ap {B = Message} (λ x. Message.BiSnp SnpOp.CurBlk bitag line x) (span-back span)
message-back (Message.BiSnp SnpOp.DatBlk bitag line span) = ap {B = Message} (λ x. Message.BiSnp SnpOp.DatBlk bitag line x) (span-back span)
message-back (Message.BiSnp SnpOp.InvBlk bitag line span) = ap {B = Message} (λ x. Message.BiSnp SnpOp.InvBlk bitag line x) (span-back span)
message-back (Message.Credit channel) = ap {B = Message} Message.Credit (channel-back channel)

-- messages with the same key are the same
pub message_eq-same : (m n : Message) → IsTrue (message_eq m n) → m ≡ n
message_eq-same m n h = sym (message-back m) ∙ ap from_key (pointwise-same (message_key m) (message_key n) h) ∙ message-back n

pub same-message_eq : (m n : Message) → m ≡ n → IsTrue (message_eq m n)
same-message_eq m n h = same-pointwise (message_key m) (message_key n) (ap message_key h)
