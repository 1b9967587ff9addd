-- The number of each name: those that traces write, and those by which states are compared. Every number is an own rule.
use Rattle.std.specs.Prelude.{ℕ, Bool, ◌==◌, nat_eq}
use lib.Pointwise.{pointwise}
use Rattle.cxl_message.specs.declared.channels.Channel.{Channel}
use Rattle.cxl_message.specs.declared.codes.TheConstants.{MEM_RD, MEM_INV, MEM_CLN_EVCT, MEM_WR, BI_CONFLICT, BI_RSP_I, BI_RSP_S, BI_RSP_E, BI_RSP_I_BLK, BI_RSP_S_BLK, BI_RSP_E_BLK, CMP, CMP_S, CMP_E, BI_CONFLICT_ACK, MEM_DATA, BI_SNP_CUR, BI_SNP_DATA, BI_SNP_INV, BI_SNP_CUR_BLK, BI_SNP_DATA_BLK, BI_SNP_INV_BLK, CREDIT}
use Rattle.cxl_message.specs.declared.identifiers.Bytes64.{Bytes64}
use Rattle.cxl_message.specs.declared.opcodes.Meta.{Meta}
use Rattle.cxl_message.specs.declared.opcodes.SnpType.{SnpType}
use Rattle.cxl_message.specs.declared.opcodes.ReqOp.{ReqOp}
use Rattle.cxl_message.specs.declared.opcodes.RspOp.{RspOp}
use Rattle.cxl_message.specs.declared.opcodes.NdrOp.{NdrOp}
use Rattle.cxl_message.specs.declared.opcodes.SnpOp.{SnpOp}
use Rattle.cxl_message.specs.declared.opcodes.Span.{Span}
use Rattle.cxl_message.specs.declared.states.CopyState.{CopyState}
use Rattle.cxl_message.specs.declared.states.Listing.{Listing}

-- the number of a Meta0-State value
abbrev pub meta_code : Meta → ℕ
meta_code Meta.Invalid = 0
meta_code Meta.Any = 1
meta_code Meta.Shared = 2

-- the number of a snoop type
abbrev pub snoop_type_code : SnpType → ℕ
snoop_type_code SnpType.NoOp = 0
snoop_type_code SnpType.SnpData = 1
snoop_type_code SnpType.SnpCur = 2
snoop_type_code SnpType.SnpInv = 3

-- the number of a channel
abbrev pub channel_code : Channel → ℕ
channel_code Channel.Req = 1
channel_code Channel.Rwd = 2
channel_code Channel.BiRsp = 3
channel_code Channel.Ndr = 4
channel_code Channel.Drs = 5
channel_code Channel.BiSnp = 6
channel_code Channel.CreditUp = 7
channel_code Channel.CreditDown = 8

-- the number of a Req opcode
abbrev pub request_code : ReqOp → ℕ
request_code ReqOp.MemRd = MEM_RD
request_code ReqOp.MemInv = MEM_INV
request_code ReqOp.MemClnEvct = MEM_CLN_EVCT

-- the number of MemWr
abbrev pub write_code : ℕ
write_code = MEM_WR

-- the number of BIConflict
abbrev pub conflict_code : ℕ
conflict_code = BI_CONFLICT

-- the number of a BIRsp opcode
abbrev pub response_code : RspOp → ℕ
response_code RspOp.I = BI_RSP_I
response_code RspOp.S = BI_RSP_S
response_code RspOp.E = BI_RSP_E
response_code RspOp.IBlk = BI_RSP_I_BLK
response_code RspOp.SBlk = BI_RSP_S_BLK
response_code RspOp.EBlk = BI_RSP_E_BLK

-- the number of an NDR opcode
abbrev pub completion_code : NdrOp → ℕ
completion_code NdrOp.Cmp = CMP
completion_code NdrOp.CmpS = CMP_S
completion_code NdrOp.CmpE = CMP_E
completion_code NdrOp.ConflictAck = BI_CONFLICT_ACK

-- the number of MemData
abbrev pub data_code : ℕ
data_code = MEM_DATA

-- the number of a BISnp opcode
abbrev pub snoop_code : SnpOp → ℕ
snoop_code SnpOp.Cur = BI_SNP_CUR
snoop_code SnpOp.Dat = BI_SNP_DATA
snoop_code SnpOp.Inv = BI_SNP_INV
snoop_code SnpOp.CurBlk = BI_SNP_CUR_BLK
snoop_code SnpOp.DatBlk = BI_SNP_DATA_BLK
snoop_code SnpOp.InvBlk = BI_SNP_INV_BLK

-- the number of a Credit
abbrev pub credit_code : ℕ
credit_code = CREDIT

-- how many lines a span has
abbrev pub span_len : Span → ℕ
span_len Span.One = 1
span_len Span.Two = 2
span_len Span.Four = 4

-- the number of a copy's state: 0 for no copy, 2 or more for a writable one
abbrev pub copy_code : CopyState → ℕ
copy_code CopyState.I = 0
copy_code CopyState.S = 1
copy_code CopyState.E = 2
copy_code CopyState.M = 3

-- the number of a listing
abbrev pub listing_code : Listing → ℕ
listing_code Listing.I = 0
listing_code Listing.S = 1
listing_code Listing.A = 2

-- whether two channels are the same
abbrev pub channel_eq : Channel → Channel → Bool
channel_eq c d = channel_code c == channel_code d

-- whether two lines of 64 bytes are the same
abbrev pub bytes_eq : Bytes64 → Bytes64 → Bool
bytes_eq x y = pointwise nat_eq x.0 y.0
