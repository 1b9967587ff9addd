-- The rows V1 and V2 of the device: which messages it takes after its own events, newest first. None where the row's condition fails.
use Rattle.std.specs.Prelude.{Bool, List, None, Option, Some, false, is_none, length, ℕ, ◌&&◌, ◌+◌, ◌==◌}
use Rattle.cxl_message.specs.declared.channels.Channel.{Channel}
use Rattle.cxl_message.specs.declared.events.Event.{Event}
use Rattle.cxl_message.specs.declared.messages.Message.{Message}
use Rattle.cxl_message.specs.declared.opcodes.RspOp.{RspOp}
use Rattle.cxl_message.specs.Codes.{span_len}
use Rattle.cxl_message.specs.Lists.{is_in}
use Rattle.cxl_message.specs.Setup.{Configuration}
use Rattle.coherence_model.specs.Buffers.{buffered_requests, buffered_writes, message_with}
use Rattle.coherence_model.specs.Credits.{lacks_credit}
use Rattle.coherence_model.specs.Emission.{Emission, nothing}
use Rattle.coherence_model.specs.HostActs.{is_data_snoop}
use Rattle.coherence_model.specs.SentSnoops.{SentSnoop, sent_snoop_at}
use Rattle.coherence_model.specs.Snoops.{invalidates_block}
use Rattle.coherence_model.specs.Words.{when}

-- V1, Req and RwD: no message of that host and channel is buffered with that tag (own rule)
abbrev pub v1_take : ℕ → List Message → Option Emission
v1_take tag buffered = when (is_none (message_with tag buffered)) nothing

-- V1, Credit: one is missing (own rule)
abbrev pub v1_credit : Configuration → ℕ → Channel → List Event → Option Emission
v1_credit setup h c mine = when (lacks_credit setup h c mine) nothing

-- whether an answer for line a answers the snoop: BIRspI a line that is left, BIRspS one of a BISnpData, BIRspIBlk all lines of a block (CXL 3.1, ch. 3: BIRsp)
abbrev pub is_answered_by : RspOp → ℕ → SentSnoop → Bool
is_answered_by RspOp.I a q = is_in a q.unanswered
is_answered_by RspOp.S a q = is_in a q.unanswered && is_data_snoop q.op
is_answered_by RspOp.E a q = false
is_answered_by RspOp.IBlk a q = invalidates_block q.op && (length q.unanswered == span_len q.span)
is_answered_by RspOp.SBlk a q = false
is_answered_by RspOp.EBlk a q = false

-- V2: the host is Asked by the snoop with that BITag, and the answer is one to it (CXL 3.1, ch. 3: the BITag comes back in BIRsp)
abbrev pub v2_response : RspOp → ℕ → Option SentSnoop → Option Emission
v2_response op a None = None
v2_response op a (Some q) = when (is_answered_by op a q) nothing

-- V1 and V2: what a taken message brings; those that go to a host aren't taken by the device (own rule)
abbrev pub device_takes : Configuration → ℕ → Message → List Event → Option Emission
device_takes setup h (Message.Req _ _ _ tag _) mine = v1_take tag.0 (buffered_requests h mine)
device_takes setup h (Message.MemWr _ _ tag _ _) mine = v1_take tag.0 (buffered_writes h mine)
device_takes setup h (Message.BiConflict tag) mine = v1_take tag.0 (buffered_writes h mine)
device_takes setup h (Message.BiRsp op bitag low) mine = v2_response op (bitag.0 + low) (sent_snoop_at h bitag.0 mine)
device_takes setup h (Message.Ndr _ _) mine = None
device_takes setup h (Message.MemData _ _) mine = None
device_takes setup h (Message.BiSnp _ _ _ _) mine = None
device_takes setup h (Message.Credit c) mine = v1_credit setup h c mine
