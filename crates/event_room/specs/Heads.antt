-- Messages and operations as a head and a payload. Every rule here is an own rule.
use Rattle.std.specs.Prelude.{◌≡◌, ℕ, Bool, true, false}
use Rattle.cxl_message.specs.declared.identifiers.Bytes64.{Bytes64}
use Rattle.cxl_message.specs.declared.messages.Message.{Message}
use Rattle.cxl_message.specs.declared.events.Op.{Op}
use Rattle.cxl_message.specs.Opening.{zero_bytes}
use Rattle.event_room.specs.declared.messages.MessageHead.{MessageHead}
use Rattle.event_room.specs.declared.operations.OpHead.{OpHead}

-- the message of a head and a payload; the payload counts where the head has one
abbrev pub with_payload : MessageHead → Bytes64 → Message
with_payload (MessageHead.Req op meta snp tag line) payload = Message.Req op meta snp tag line
with_payload (MessageHead.MemWr meta snp tag line) payload = Message.MemWr meta snp tag line payload
with_payload (MessageHead.BiConflict tag) payload = Message.BiConflict tag
with_payload (MessageHead.BiRsp op bitag low) payload = Message.BiRsp op bitag low
with_payload (MessageHead.Ndr op tag) payload = Message.Ndr op tag
with_payload (MessageHead.MemData tag) payload = Message.MemData tag payload
with_payload (MessageHead.BiSnp op bitag line span) payload = Message.BiSnp op bitag line span
with_payload (MessageHead.Credit channel) payload = Message.Credit channel

-- whether a head has a payload
abbrev pub has_payload : MessageHead → Bool
has_payload (MessageHead.Req op meta snp tag line) = false
has_payload (MessageHead.MemWr meta snp tag line) = true
has_payload (MessageHead.BiConflict tag) = false
has_payload (MessageHead.BiRsp op bitag low) = false
has_payload (MessageHead.Ndr op tag) = false
has_payload (MessageHead.MemData tag) = true
has_payload (MessageHead.BiSnp op bitag line span) = false
has_payload (MessageHead.Credit channel) = false

-- all of a message but its payload
abbrev pub head_of : Message → MessageHead
head_of (Message.Req op meta snp tag line) = MessageHead.Req op meta snp tag line
head_of (Message.MemWr meta snp tag line bytes) = MessageHead.MemWr meta snp tag line
head_of (Message.BiConflict tag) = MessageHead.BiConflict tag
head_of (Message.BiRsp op bitag low) = MessageHead.BiRsp op bitag low
head_of (Message.Ndr op tag) = MessageHead.Ndr op tag
head_of (Message.MemData tag bytes) = MessageHead.MemData tag
head_of (Message.BiSnp op bitag line span) = MessageHead.BiSnp op bitag line span
head_of (Message.Credit channel) = MessageHead.Credit channel

-- the payload of a message: zeros where it has none, as on the wire of a BIConflict
abbrev pub payload_of : Message → Bytes64
payload_of (Message.Req op meta snp tag line) = zero_bytes
payload_of (Message.MemWr meta snp tag line bytes) = bytes
payload_of (Message.BiConflict tag) = zero_bytes
payload_of (Message.BiRsp op bitag low) = zero_bytes
payload_of (Message.Ndr op tag) = zero_bytes
payload_of (Message.MemData tag bytes) = bytes
payload_of (Message.BiSnp op bitag line span) = zero_bytes
payload_of (Message.Credit channel) = zero_bytes

-- the operation of a head and a payload; the payload counts where the head has one
abbrev pub op_with : OpHead → Bytes64 → Op
op_with (OpHead.Load line) payload = Op.Load line
op_with (OpHead.Word line place value) payload = Op.Word line place value
op_with (OpHead.Whole line) payload = Op.Whole line payload

-- whether a head has a payload
abbrev pub op_has_payload : OpHead → Bool
op_has_payload (OpHead.Load line) = false
op_has_payload (OpHead.Word line place value) = false
op_has_payload (OpHead.Whole line) = true

-- all of an operation but its payload
abbrev pub op_head_of : Op → OpHead
op_head_of (Op.Load line) = OpHead.Load line
op_head_of (Op.Word line place value) = OpHead.Word line place value
op_head_of (Op.Whole line bytes) = OpHead.Whole line

-- the payload of an operation: zeros where it has none
abbrev pub op_payload_of : Op → Bytes64
op_payload_of (Op.Load line) = zero_bytes
op_payload_of (Op.Word line place value) = zero_bytes
op_payload_of (Op.Whole line bytes) = bytes

-- head and payload are the message, and each of them is found in it again
pub record MessagesSplit : Type 0 where
  pub joined : (message : Message) → with_payload (head_of message) (payload_of message) ≡ message
  pub head : (head : MessageHead) (payload : Bytes64) → head_of (with_payload head payload) ≡ head
  pub payload : (head : MessageHead) (payload : Bytes64) → has_payload head ≡ true → payload_of (with_payload head payload) ≡ payload
  pub absent : (head : MessageHead) (payload : Bytes64) → has_payload head ≡ false → payload_of (with_payload head payload) ≡ zero_bytes

-- head and payload are the operation, and each of them is found in it again
pub record OpsSplit : Type 0 where
  pub joined : (op : Op) → op_with (op_head_of op) (op_payload_of op) ≡ op
  pub head : (head : OpHead) (payload : Bytes64) → op_head_of (op_with head payload) ≡ head
  pub payload : (head : OpHead) (payload : Bytes64) → op_has_payload head ≡ true → op_payload_of (op_with head payload) ≡ payload
  pub absent : (head : OpHead) (payload : Bytes64) → op_has_payload head ≡ false → op_payload_of (op_with head payload) ≡ zero_bytes
