-- Which messages are in the profile.
use Rattle.std.specs.Prelude.{ℕ, Bool, true, false, ◌&&◌, ◌==◌, nat_lt}
use Rattle.cxl_message.specs.declared.limits.TheConstants.{MAX_SPAN}
use Rattle.cxl_message.specs.declared.opcodes.Meta.{Meta}
use Rattle.cxl_message.specs.declared.opcodes.SnpType.{SnpType}
use Rattle.cxl_message.specs.declared.opcodes.ReqOp.{ReqOp}
use Rattle.cxl_message.specs.declared.opcodes.RspOp.{RspOp}
use Rattle.cxl_message.specs.declared.opcodes.SnpOp.{SnpOp}
use Rattle.cxl_message.specs.declared.opcodes.Span.{Span}
use Rattle.cxl_message.specs.declared.messages.Message.{Message}
use Rattle.cxl_message.specs.Channels.{has_credits}

-- the Meta0-State and snoop type that a Req may have (CXL 3.1, ch. 3: M2S Req opcodes; own rule: those of MemClnEvct)
abbrev pub request_in_profile : ReqOp → Meta → SnpType → Bool
request_in_profile ReqOp.MemRd Meta.Shared SnpType.SnpData = true
request_in_profile ReqOp.MemRd Meta.Any SnpType.SnpInv = true
request_in_profile ReqOp.MemInv Meta.Any SnpType.SnpInv = true
request_in_profile ReqOp.MemClnEvct Meta.Invalid SnpType.NoOp = true
request_in_profile _ _ _ = false

-- the Meta0-State and snoop type that a MemWr may have (own rule)
abbrev pub write_in_profile : Meta → SnpType → Bool
write_in_profile Meta.Invalid SnpType.NoOp = true
write_in_profile Meta.Shared SnpType.NoOp = true
write_in_profile _ _ = false

-- the answers to snoops that may be sent (CXL 3.1, ch. 3: BIRspI, BIRspS and BIRspIBlk; own rule: `low`)
abbrev pub response_in_profile : RspOp → ℕ → Bool
response_in_profile RspOp.I low = nat_lt low MAX_SPAN
response_in_profile RspOp.S low = nat_lt low MAX_SPAN
response_in_profile RspOp.E low = false
response_in_profile RspOp.IBlk low = low == 0
response_in_profile RspOp.SBlk low = false
response_in_profile RspOp.EBlk low = false

-- the snoops that may be sent, with their spans (CXL 3.1, ch. 3: BISnpData, BISnpInv and BISnpInvBlk)
abbrev pub snoop_in_profile : SnpOp → Span → Bool
snoop_in_profile SnpOp.Dat Span.One = true
snoop_in_profile SnpOp.Inv Span.One = true
snoop_in_profile SnpOp.InvBlk Span.Two = true
snoop_in_profile SnpOp.InvBlk Span.Four = true
snoop_in_profile _ _ = false

-- a message that hosts and the device may send, without the parts that need a setup (CXL 3.1, ch. 3: the opcode tables; own rule: a BITag is the first line)
abbrev pub in_profile : Message → Bool
in_profile (Message.Req op meta snp tag line) = request_in_profile op meta snp
in_profile (Message.MemWr meta snp tag line bytes) = write_in_profile meta snp
in_profile (Message.BiConflict tag) = true
in_profile (Message.BiRsp op bitag low) = response_in_profile op low
in_profile (Message.Ndr op tag) = true
in_profile (Message.MemData tag bytes) = true
in_profile (Message.BiSnp op bitag line span) = snoop_in_profile op span && (bitag.0 == line.0)
in_profile (Message.Credit channel) = has_credits channel
