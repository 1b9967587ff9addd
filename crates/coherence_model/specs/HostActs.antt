-- The rows H7 to H10 of a host: what an act sends after the host's own events, newest first. None where the row's condition fails.
use Rattle.std.specs.Prelude.{Bool, List, None, Option, Some, false, if◌then◌else◌, nat_le, not, true, ℕ, ◌&&◌, ◌-◌, ◌==◌, ◌||◌}
use Rattle.std.specs.List.{list_all}
use Rattle.std.specs.Option.{option_map_or}
use Rattle.cxl_message.specs.declared.channels.Channel.{Channel}
use Rattle.cxl_message.specs.declared.events.Act.{Act}
use Rattle.cxl_message.specs.declared.events.Event.{Event}
use Rattle.cxl_message.specs.declared.messages.Message.{Message}
use Rattle.cxl_message.specs.declared.opcodes.Meta.{Meta}
use Rattle.cxl_message.specs.declared.opcodes.RspOp.{RspOp}
use Rattle.cxl_message.specs.declared.opcodes.SnpOp.{SnpOp}
use Rattle.cxl_message.specs.declared.opcodes.SnpType.{SnpType}
use Rattle.cxl_message.specs.Codes.{span_len}
use Rattle.cxl_message.specs.Setup.{Configuration}
use Rattle.coherence_model.specs.Cache.{copy, has_copy, is_modified}
use Rattle.coherence_model.specs.Emission.{Emission, one_send}
use Rattle.coherence_model.specs.Snoops.{Snoop, host_owed, is_snooped, snoop_at, whole_block_at}
use Rattle.coherence_model.specs.Stages.{is_early, is_early_or_written, is_new, is_new_or_late, stage}
use Rattle.coherence_model.specs.Transactions.{Kind, Transaction, is_open, open_at}
use Rattle.coherence_model.specs.Words.{when}
use Rattle.coherence_model.specs.WriteBacks.{is_write_back_open}

-- whether a conflict is declared for what is open: not for a MemWr (CXL 3.1, ch. 3: BIConflict; own rule: for MemInv and MemClnEvct too)
abbrev pub may_conflict : Kind → Bool
may_conflict Kind.ReadShared = true
may_conflict Kind.ReadAny = true
may_conflict Kind.Invalidate = true
may_conflict Kind.CleanEviction = true
may_conflict Kind.DirtyEviction = false

-- H7: a snooped line at stage New with an open request or MemClnEvct declares a conflict, with its tag (CXL 3.1, ch. 3: BIConflict)
abbrev pub h7_conflict : Configuration → ℕ → ℕ → List Event → Option Transaction → Option Emission
h7_conflict setup h a mine None = None
h7_conflict setup h a mine (Some o) =
    when (is_snooped a mine && is_new (stage setup a mine) && may_conflict o.kind) (one_send h (Message.BiConflict (record { 0 = o.tag })))

-- whether a snoop's opcode is BISnpData (CXL 3.1, ch. 3: the opcodes)
abbrev pub is_data_snoop : SnpOp → Bool
is_data_snoop SnpOp.Cur = false
is_data_snoop SnpOp.Dat = true
is_data_snoop SnpOp.Inv = false
is_data_snoop SnpOp.CurBlk = false
is_data_snoop SnpOp.DatBlk = false
is_data_snoop SnpOp.InvBlk = false

-- the Meta0-State that a write-back carries: Shared for BISnpData, Invalid otherwise (own rule)
abbrev pub write_back_meta : SnpOp → Meta
write_back_meta op = if is_data_snoop op then Meta.Shared else Meta.Invalid

-- the message of a write-back, with the write-back tag (CXL 3.1, ch. 3: MemWr; own rule: the tag and the fields)
abbrev pub write_back_message : Configuration → SnpOp → ℕ → List Event → Message
write_back_message setup op a mine = Message.MemWr (write_back_meta op) SnpType.NoOp (record { 0 = setup.tags }) (record { 0 = a }) (copy setup a mine).bytes

-- H8: a snooped line at stage New or Late that isn't Open, with copy M, is written back where the write-back tag is free (own rule)
abbrev pub h8_write_back : Configuration → ℕ → ℕ → List Event → Option Snoop → Option Emission
h8_write_back setup h a mine None = None
h8_write_back setup h a mine (Some s) =
    when (is_new_or_late (stage setup a mine) && not (is_open a mine) && is_modified setup a mine && not (is_write_back_open setup mine))
    (one_send h (write_back_message setup s.op a mine))

-- whether a snooped line needs nothing more before its answer (own rule)
abbrev pub is_ready : Configuration → ℕ → List Event → Bool
is_ready setup a mine =
    is_early_or_written (stage setup a mine) || (is_new_or_late (stage setup a mine) && not (is_open a mine) && not (is_modified setup a mine))

-- whether a line of a whole block may be answered with the others: it is New, not Open, and its copy isn't M (own rule)
abbrev pub may_answer_in_block : Configuration → List Event → ℕ → Bool
may_answer_in_block setup mine a = is_new (stage setup a mine) && not (is_open a mine) && not (is_modified setup a mine)

-- whether a block with this first line may be answered at once: none of its lines was answered, and each may be (own rule)
abbrev pub may_answer_block : Configuration → ℕ → List Event → Bool
may_answer_block setup first mine = option_map_or (λ s. list_all (may_answer_in_block setup mine) s.unanswered) (whole_block_at first mine) false

-- whether a host keeps its copy of line a as a shared one: for BISnpData, unless its conflict ended early or there is no copy (CXL 3.1, ch. 3: BIRspS)
abbrev pub stays_shared : Configuration → SnpOp → ℕ → List Event → Bool
stays_shared setup op a mine = is_data_snoop op && not (is_early (stage setup a mine)) && has_copy setup a mine

-- the answer for one line: BIRspS keeps a shared copy, BIRspI gives it up (CXL 3.1, ch. 3: BIRspS and BIRspI)
abbrev pub response_for : Configuration → SnpOp → ℕ → List Event → RspOp
response_for setup op a mine = if stays_shared setup op a mine then RspOp.S else RspOp.I

-- whether a snooped line is answered by itself: its snoop has one line, or its block isn't to be answered at once (own rule)
abbrev pub is_answered_alone : Configuration → Snoop → List Event → Bool
is_answered_alone setup s mine = (span_len s.span == 1) || not (may_answer_block setup s.first mine)

-- H9, Answer: a ready line is answered by itself (CXL 3.1, ch. 3: BIRspI and BIRspS; own rule: when)
abbrev pub h9_answer : Configuration → ℕ → ℕ → List Event → Option Snoop → Option Emission
h9_answer setup h a mine None = None
h9_answer setup h a mine (Some s) =
    when (is_ready setup a mine && is_answered_alone setup s mine)
    (one_send h (Message.BiRsp (response_for setup s.op a mine) (record { 0 = s.first }) (a - s.first)))

-- H9, AnswerBlock: a whole block is answered at once (CXL 3.1, ch. 3: BIRspIBlk; own rule: when)
abbrev pub h9_answer_block : Configuration → ℕ → ℕ → List Event → Option Emission
h9_answer_block setup h a mine = when (may_answer_block setup a mine) (one_send h (Message.BiRsp RspOp.IBlk (record { 0 = a }) 0))

-- whether a host gives credits back for a channel: NDR, DRS and BISnp, whose messages it takes (own rule)
abbrev pub host_returns : Channel → Bool
host_returns Channel.Req = false
host_returns Channel.Rwd = false
host_returns Channel.BiRsp = false
host_returns Channel.Ndr = true
host_returns Channel.Drs = true
host_returns Channel.BiSnp = true
host_returns Channel.CreditUp = false
host_returns Channel.CreditDown = false

-- H10: a used message gives its credit back (own rule)
abbrev pub h10_return : ℕ → Channel → List Event → Option Emission
h10_return h c mine = when (host_returns c && nat_le 1 (host_owed h c mine)) (one_send h (Message.Credit c))

-- H7 to H10: what an act brings; those of the device are done by no host (own rule)
abbrev pub host_acts : Configuration → ℕ → Act → List Event → Option Emission
host_acts setup h (Act.Conflict line) mine = h7_conflict setup h line.0 mine (open_at line.0 mine)
host_acts setup h (Act.WriteBack line) mine = h8_write_back setup h line.0 mine (snoop_at line.0 mine)
host_acts setup h (Act.Answer line) mine = h9_answer setup h line.0 mine (snoop_at line.0 mine)
host_acts setup h (Act.AnswerBlock line) mine = h9_answer_block setup h line.0 mine
host_acts setup h (Act.HostReturn c) mine = h10_return h c mine
host_acts setup h (Act.Serve _ _) mine = None
host_acts setup h (Act.Clean _ _) mine = None
host_acts setup h (Act.Start _ _) mine = None
host_acts setup h (Act.Evict _ _) mine = None
host_acts setup h (Act.Snoop _ _) mine = None
host_acts setup h (Act.Finish _) mine = None
host_acts setup h (Act.DeviceReturn _ _) mine = None
