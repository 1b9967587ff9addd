-- What a message is: its fields as numbers, its channel and its tag.
use Rattle.std.specs.Prelude.{ℕ, Bool, true, false, List, [], ◌∷◌, Option, Some, None, ◌==◌, nat_eq}
use Rattle.std.specs.Option.{option_map_or}
use lib.Pointwise.{pointwise}
use Rattle.cxl_message.specs.declared.channels.Channel.{Channel}
use Rattle.cxl_message.specs.declared.messages.Message.{Message}
use Rattle.cxl_message.specs.declared.opcodes.NdrOp.{NdrOp}
use Rattle.cxl_message.specs.Channels.{credit_channel}
use Rattle.cxl_message.specs.Codes.{meta_code, snoop_type_code, channel_code, request_code, write_code, conflict_code, response_code, completion_code, data_code, snoop_code, credit_code, span_len}

-- a message as a list of numbers: its kind, then its fields (own rule)
abbrev pub message_key : Message → List ℕ
message_key (Message.Req op meta snp tag line) = request_code op ∷ meta_code meta ∷ snoop_type_code snp ∷ tag.0 ∷ line.0 ∷ []
message_key (Message.MemWr meta snp tag line bytes) = write_code ∷ meta_code meta ∷ snoop_type_code snp ∷ tag.0 ∷ line.0 ∷ bytes.0
message_key (Message.BiConflict tag) = conflict_code ∷ tag.0 ∷ []
message_key (Message.BiRsp op bitag low) = response_code op ∷ bitag.0 ∷ low ∷ []
message_key (Message.Ndr op tag) = completion_code op ∷ tag.0 ∷ []
message_key (Message.MemData tag bytes) = data_code ∷ tag.0 ∷ bytes.0
message_key (Message.BiSnp op bitag line span) = snoop_code op ∷ bitag.0 ∷ line.0 ∷ span_len span ∷ []
message_key (Message.Credit channel) = credit_code ∷ channel_code channel ∷ []

-- whether two messages are the same
abbrev pub message_eq : Message → Message → Bool
message_eq m n = pointwise nat_eq (message_key m) (message_key n)

-- the channel that a message goes on (CXL 3.1, ch. 3: M2S Req, RwD and BIRsp, S2M NDR, DRS and BISnp; own rule: a Credit's)
abbrev pub channel_of : Message → Channel
channel_of (Message.Req _ _ _ _ _) = Channel.Req
channel_of (Message.MemWr _ _ _ _ _) = Channel.Rwd
channel_of (Message.BiConflict _) = Channel.Rwd
channel_of (Message.BiRsp _ _ _) = Channel.BiRsp
channel_of (Message.Ndr _ _) = Channel.Ndr
channel_of (Message.MemData _ _) = Channel.Drs
channel_of (Message.BiSnp _ _ _ _) = Channel.BiSnp
channel_of (Message.Credit channel) = credit_channel channel

-- the Tag of a message that has one (CXL 3.1, ch. 3: a host gives it in Req and RwD, and it comes back in NDR and DRS)
abbrev pub tag_of : Message → Option ℕ
tag_of (Message.Req _ _ _ tag _) = Some tag.0
tag_of (Message.MemWr _ _ tag _ _) = Some tag.0
tag_of (Message.BiConflict tag) = Some tag.0
tag_of (Message.BiRsp _ _ _) = None
tag_of (Message.Ndr _ tag) = Some tag.0
tag_of (Message.MemData tag _) = Some tag.0
tag_of (Message.BiSnp _ _ _ _) = None
tag_of (Message.Credit _) = None

-- whether a message has this tag (own rule)
abbrev pub has_tag : ℕ → Message → Bool
has_tag tag m = option_map_or (λ t. t == tag) (tag_of m) false

-- whether an NDR opcode is BI-ConflictAck (CXL 3.1, ch. 3: the messages)
abbrev pub acknowledges : NdrOp → Bool
acknowledges NdrOp.Cmp = false
acknowledges NdrOp.CmpS = false
acknowledges NdrOp.CmpE = false
acknowledges NdrOp.ConflictAck = true

-- whether a message is a BI-ConflictAck (CXL 3.1, ch. 3: the messages)
abbrev pub is_conflict_ack : Message → Bool
is_conflict_ack (Message.Req _ _ _ _ _) = false
is_conflict_ack (Message.MemWr _ _ _ _ _) = false
is_conflict_ack (Message.BiConflict _) = false
is_conflict_ack (Message.BiRsp _ _ _) = false
is_conflict_ack (Message.Ndr op _) = acknowledges op
is_conflict_ack (Message.MemData _ _) = false
is_conflict_ack (Message.BiSnp _ _ _ _) = false
is_conflict_ack (Message.Credit _) = false

-- the line of a Req or MemWr message (CXL 3.1, ch. 3: the messages)
abbrev pub line_in : Message → Option ℕ
line_in (Message.Req _ _ _ _ line) = Some line.0
line_in (Message.MemWr _ _ _ line _) = Some line.0
line_in (Message.BiConflict _) = None
line_in (Message.BiRsp _ _ _) = None
line_in (Message.Ndr _ _) = None
line_in (Message.MemData _ _) = None
line_in (Message.BiSnp _ _ _ _) = None
line_in (Message.Credit _) = None
