-- Which events are well formed: their numbers are such as a record of a trace can have. Every rule here is an own rule.
use Rattle.std.specs.Prelude.{Bool, true, false, ◌&&◌, nat_lt, nat_le}
use Rattle.std.specs.List.{list_all}
use Rattle.std.specs.Option.{option_map_or}
use Rattle.cxl_message.specs.declared.limits.TheConstants.{DEVICE, MAX_HOSTS, MAX_SPAN, MAX_STREAMS, PLACES}
use Rattle.cxl_message.specs.declared.opcodes.SnpOp.{SnpOp}
use Rattle.cxl_message.specs.declared.opcodes.Span.{Span}
use Rattle.cxl_message.specs.declared.messages.Message.{Message}
use Rattle.cxl_message.specs.declared.events.Op.{Op}
use Rattle.cxl_message.specs.declared.events.Act.{Act}
use Rattle.cxl_message.specs.declared.events.Cause.{Cause}
use Rattle.cxl_message.specs.declared.events.Out.{Out}
use Rattle.cxl_message.specs.declared.events.Commit.{Commit}
use Rattle.cxl_message.specs.declared.events.Event.{Event}
use Rattle.cxl_message.specs.Channels.{has_credits}
use Rattle.cxl_message.specs.Events.{outs}

-- whether a snoop's opcode is that of a block (CXL 3.1, ch. 3: BISnpCurBlk, BISnpDataBlk and BISnpInvBlk)
abbrev pub is_block_snoop : SnpOp → Bool
is_block_snoop SnpOp.Cur = false
is_block_snoop SnpOp.Dat = false
is_block_snoop SnpOp.Inv = false
is_block_snoop SnpOp.CurBlk = true
is_block_snoop SnpOp.DatBlk = true
is_block_snoop SnpOp.InvBlk = true

-- the span that a snoop's opcode allows: one line for a single snoop, two or four for a block (CXL 3.1, ch. 3)
abbrev pub span_fits : Bool → Span → Bool
span_fits false Span.One = true
span_fits false Span.Two = false
span_fits false Span.Four = false
span_fits true Span.One = false
span_fits true Span.Two = true
span_fits true Span.Four = true

-- the numbers of a message are such as a record can have
abbrev pub message_formed : Message → Bool
message_formed (Message.Req op meta snp tag line) = true
message_formed (Message.MemWr meta snp tag line bytes) = true
message_formed (Message.BiConflict tag) = true
message_formed (Message.BiRsp op bitag low) = nat_lt low MAX_SPAN
message_formed (Message.Ndr op tag) = true
message_formed (Message.MemData tag bytes) = true
message_formed (Message.BiSnp op bitag line span) = span_fits (is_block_snoop op) span
message_formed (Message.Credit channel) = has_credits channel

-- the place of a Word is one of those of its line
abbrev pub place_exists : Op → Bool
place_exists (Op.Load _) = true
place_exists (Op.Word _ place _) = nat_lt place PLACES
place_exists (Op.Whole _ _) = true

-- the host and the channel of an act are such as a record can have
abbrev pub act_formed : Act → Bool
act_formed (Act.Conflict line) = true
act_formed (Act.WriteBack line) = true
act_formed (Act.Answer line) = true
act_formed (Act.AnswerBlock line) = true
act_formed (Act.HostReturn channel) = has_credits channel
act_formed (Act.Serve host tag) = nat_lt host MAX_HOSTS
act_formed (Act.Clean host tag) = nat_lt host MAX_HOSTS
act_formed (Act.Start host tag) = nat_lt host MAX_HOSTS
act_formed (Act.Evict host tag) = nat_lt host MAX_HOSTS
act_formed (Act.Snoop host line) = nat_lt host MAX_HOSTS
act_formed (Act.Finish line) = true
act_formed (Act.DeviceReturn host channel) = nat_lt host MAX_HOSTS && has_credits channel

-- the numbers of a cause are such as a record can have
abbrev pub cause_formed : Cause → Bool
cause_formed (Cause.Op stream index op) = nat_lt stream MAX_STREAMS && place_exists op
cause_formed (Cause.Take host message) = nat_lt host MAX_HOSTS && message_formed message
cause_formed (Cause.Act act) = act_formed act

-- the numbers of a sent message are such as a record can have
abbrev pub out_formed : Out → Bool
out_formed o = nat_lt o.host MAX_HOSTS && message_formed o.message

-- the numbers of a commit are such as a record can have
abbrev pub commit_formed : Commit → Bool
commit_formed c = nat_lt c.stream MAX_STREAMS && place_exists c.op

-- the numbers of an event are such as a record can have; the last agent is the device
abbrev pub well_formed : Event → Bool
well_formed e = nat_le e.agent DEVICE && cause_formed e.cause && list_all out_formed (outs e.sends) && option_map_or commit_formed e.commit true
