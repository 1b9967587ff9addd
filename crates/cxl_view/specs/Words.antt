-- The words by which opcodes and fields are shown. Opcodes have the standard's names (CXL 3.1, ch. 3); every other word is an own rule.
use Rattle.std.specs.Prelude.{ℕ, List, codes}
use Rattle.cxl_message.specs.declared.channels.Channel.{Channel}
use Rattle.cxl_message.specs.declared.opcodes.Meta.{Meta}
use Rattle.cxl_message.specs.declared.opcodes.NdrOp.{NdrOp}
use Rattle.cxl_message.specs.declared.opcodes.ReqOp.{ReqOp}
use Rattle.cxl_message.specs.declared.opcodes.RspOp.{RspOp}
use Rattle.cxl_message.specs.declared.opcodes.SnpOp.{SnpOp}
use Rattle.cxl_message.specs.declared.opcodes.SnpType.{SnpType}

-- the Meta0-State value of a request or a write
abbrev pub meta_word : Meta → List ℕ
meta_word Meta.Invalid = codes "Invalid"
meta_word Meta.Any = codes "Any"
meta_word Meta.Shared = codes "Shared"

-- the snoop type of a request or a write
abbrev pub snoop_type_word : SnpType → List ℕ
snoop_type_word SnpType.NoOp = codes "No-Op"
snoop_type_word SnpType.SnpData = codes "SnpData"
snoop_type_word SnpType.SnpCur = codes "SnpCur"
snoop_type_word SnpType.SnpInv = codes "SnpInv"

-- an opcode of M2S Req
abbrev pub request_word : ReqOp → List ℕ
request_word ReqOp.MemRd = codes "MemRd"
request_word ReqOp.MemInv = codes "MemInv"
request_word ReqOp.MemClnEvct = codes "MemClnEvct"

-- an opcode of M2S BIRsp
abbrev pub response_word : RspOp → List ℕ
response_word RspOp.I = codes "BIRspI"
response_word RspOp.S = codes "BIRspS"
response_word RspOp.E = codes "BIRspE"
response_word RspOp.IBlk = codes "BIRspIBlk"
response_word RspOp.SBlk = codes "BIRspSBlk"
response_word RspOp.EBlk = codes "BIRspEBlk"

-- an opcode of S2M NDR
abbrev pub completion_word : NdrOp → List ℕ
completion_word NdrOp.Cmp = codes "Cmp"
completion_word NdrOp.CmpS = codes "Cmp-S"
completion_word NdrOp.CmpE = codes "Cmp-E"
completion_word NdrOp.ConflictAck = codes "BI-ConflictAck"

-- an opcode of S2M BISnp
abbrev pub snoop_word : SnpOp → List ℕ
snoop_word SnpOp.Cur = codes "BISnpCur"
snoop_word SnpOp.Dat = codes "BISnpData"
snoop_word SnpOp.Inv = codes "BISnpInv"
snoop_word SnpOp.CurBlk = codes "BISnpCurBlk"
snoop_word SnpOp.DatBlk = codes "BISnpDataBlk"
snoop_word SnpOp.InvBlk = codes "BISnpInvBlk"

-- a channel; a well formed event names none of the last two
abbrev pub channel_word : Channel → List ℕ
channel_word Channel.Req = codes "Req"
channel_word Channel.Rwd = codes "RwD"
channel_word Channel.BiRsp = codes "BIRsp"
channel_word Channel.Ndr = codes "NDR"
channel_word Channel.Drs = codes "DRS"
channel_word Channel.BiSnp = codes "BISnp"
channel_word Channel.CreditUp = codes "CreditUp"
channel_word Channel.CreditDown = codes "CreditDown"
