-- The kinds that a record can have at a kind byte, each with its number. Every number is an own rule.
use Rattle.std.specs.Prelude.{ℕ, List, [], ◌∷◌}
use Rattle.cxl_message.specs.declared.channels.Channel.{Channel}
use Rattle.cxl_message.specs.declared.opcodes.Meta.{Meta}
use Rattle.cxl_message.specs.declared.opcodes.SnpType.{SnpType}
use Rattle.cxl_message.specs.declared.opcodes.ReqOp.{ReqOp}
use Rattle.cxl_message.specs.declared.opcodes.RspOp.{RspOp}
use Rattle.cxl_message.specs.declared.opcodes.NdrOp.{NdrOp}
use Rattle.cxl_message.specs.declared.opcodes.SnpOp.{SnpOp}
use Rattle.cxl_message.specs.Codes.{request_code, write_code, conflict_code, response_code, completion_code, data_code, snoop_code, credit_code}
use Rattle.cxl_codec.specs.declared.kinds.CauseKind.{CauseKind}
use Rattle.cxl_codec.specs.declared.kinds.OpKind.{OpKind}
use Rattle.cxl_codec.specs.declared.kinds.ActKind.{ActKind}
use Rattle.cxl_codec.specs.declared.kinds.LineActKind.{LineActKind}
use Rattle.cxl_codec.specs.declared.kinds.TaggedActKind.{TaggedActKind}
use Rattle.cxl_codec.specs.declared.kinds.MessageKind.{MessageKind}

-- the number of a kind of cause
abbrev pub cause_kind_code : CauseKind → ℕ
cause_kind_code CauseKind.Op = 0x01
cause_kind_code CauseKind.Take = 0x02
cause_kind_code CauseKind.Act = 0x03

-- every kind of cause
abbrev pub cause_kinds : List CauseKind
cause_kinds = CauseKind.Op ∷ CauseKind.Take ∷ CauseKind.Act ∷ []

-- the number of a kind of operation
abbrev pub op_kind_code : OpKind → ℕ
op_kind_code OpKind.Load = 0x01
op_kind_code OpKind.Word = 0x02
op_kind_code OpKind.Whole = 0x03

-- every kind of operation
abbrev pub op_kinds : List OpKind
op_kinds = OpKind.Load ∷ OpKind.Word ∷ OpKind.Whole ∷ []

-- the number of an act that names a line
abbrev pub line_act_code : LineActKind → ℕ
line_act_code LineActKind.Conflict = 0x01
line_act_code LineActKind.WriteBack = 0x02
line_act_code LineActKind.Answer = 0x03
line_act_code LineActKind.AnswerBlock = 0x04
line_act_code LineActKind.Finish = 0x16

-- the number of an act that names a host and a tag
abbrev pub tagged_act_code : TaggedActKind → ℕ
tagged_act_code TaggedActKind.Serve = 0x11
tagged_act_code TaggedActKind.Clean = 0x12
tagged_act_code TaggedActKind.Start = 0x13
tagged_act_code TaggedActKind.Evict = 0x14

-- the number of a kind of act
abbrev pub act_kind_code : ActKind → ℕ
act_kind_code (ActKind.Line kind) = line_act_code kind
act_kind_code (ActKind.Tagged kind) = tagged_act_code kind
act_kind_code ActKind.HostReturn = 0x05
act_kind_code ActKind.Snoop = 0x15
act_kind_code ActKind.DeviceReturn = 0x17

-- every kind of act
abbrev pub act_kinds : List ActKind
act_kinds =
    ActKind.Line LineActKind.Conflict ∷ ActKind.Line LineActKind.WriteBack ∷ ActKind.Line LineActKind.Answer ∷ ActKind.Line LineActKind.AnswerBlock ∷ ActKind.HostReturn
    ∷ ActKind.Tagged TaggedActKind.Serve ∷ ActKind.Tagged TaggedActKind.Clean ∷ ActKind.Tagged TaggedActKind.Start ∷ ActKind.Tagged TaggedActKind.Evict
    ∷ ActKind.Snoop ∷ ActKind.Line LineActKind.Finish ∷ ActKind.DeviceReturn ∷ []

-- the number of a kind of message
abbrev pub message_kind_code : MessageKind → ℕ
message_kind_code (MessageKind.Req op) = request_code op
message_kind_code MessageKind.MemWr = write_code
message_kind_code MessageKind.BiConflict = conflict_code
message_kind_code (MessageKind.BiRsp op) = response_code op
message_kind_code (MessageKind.Ndr op) = completion_code op
message_kind_code MessageKind.MemData = data_code
message_kind_code (MessageKind.BiSnp op) = snoop_code op
message_kind_code MessageKind.Credit = credit_code

-- every kind of message
abbrev pub message_kinds : List MessageKind
message_kinds =
    MessageKind.Req ReqOp.MemRd ∷ MessageKind.Req ReqOp.MemInv ∷ MessageKind.Req ReqOp.MemClnEvct ∷ MessageKind.MemWr ∷ MessageKind.BiConflict
    ∷ MessageKind.BiRsp RspOp.I ∷ MessageKind.BiRsp RspOp.S ∷ MessageKind.BiRsp RspOp.E ∷ MessageKind.BiRsp RspOp.IBlk ∷ MessageKind.BiRsp RspOp.SBlk ∷ MessageKind.BiRsp RspOp.EBlk
    ∷ MessageKind.Ndr NdrOp.Cmp ∷ MessageKind.Ndr NdrOp.CmpS ∷ MessageKind.Ndr NdrOp.CmpE ∷ MessageKind.Ndr NdrOp.ConflictAck ∷ MessageKind.MemData
    ∷ MessageKind.BiSnp SnpOp.Cur ∷ MessageKind.BiSnp SnpOp.Dat ∷ MessageKind.BiSnp SnpOp.Inv ∷ MessageKind.BiSnp SnpOp.CurBlk ∷ MessageKind.BiSnp SnpOp.DatBlk ∷ MessageKind.BiSnp SnpOp.InvBlk
    ∷ MessageKind.Credit ∷ []

-- every Meta0-State value
abbrev pub metas : List Meta
metas = Meta.Invalid ∷ Meta.Any ∷ Meta.Shared ∷ []

-- every snoop type
abbrev pub snoop_types : List SnpType
snoop_types = SnpType.NoOp ∷ SnpType.SnpData ∷ SnpType.SnpCur ∷ SnpType.SnpInv ∷ []

-- every channel with credits
abbrev pub credit_channels : List Channel
credit_channels = Channel.Req ∷ Channel.Rwd ∷ Channel.BiRsp ∷ Channel.Ndr ∷ Channel.Drs ∷ Channel.BiSnp ∷ []
