-- The copy of a line at a host: what each event of the host does to it.
use Rattle.std.specs.Prelude.{Bool, List, None, Option, Some, false, if◌then◌else◌, not, option_and_then, true, ℕ, ◌&&◌, ◌==◌}
use Rattle.std.specs.Option.{option_map_or, option_or}
use Rattle.cxl_message.specs.declared.events.Act.{Act}
use Rattle.cxl_message.specs.declared.events.Cause.{Cause}
use Rattle.cxl_message.specs.declared.events.Commit.{Commit}
use Rattle.cxl_message.specs.declared.events.Event.{Event}
use Rattle.cxl_message.specs.declared.events.Op.{Op}
use Rattle.cxl_message.specs.declared.events.Sends.{Sends}
use Rattle.cxl_message.specs.declared.identifiers.Bytes64.{Bytes64}
use Rattle.cxl_message.specs.declared.messages.Message.{Message}
use Rattle.cxl_message.specs.declared.opcodes.Meta.{Meta}
use Rattle.cxl_message.specs.declared.opcodes.NdrOp.{NdrOp}
use Rattle.cxl_message.specs.declared.opcodes.ReqOp.{ReqOp}
use Rattle.cxl_message.specs.declared.opcodes.RspOp.{RspOp}
use Rattle.cxl_message.specs.declared.states.CopyState.{CopyState}
use Rattle.cxl_message.specs.Events.{line_of}
use Rattle.cxl_message.specs.Lists.{is_in}
use Rattle.cxl_message.specs.Opening.{zero_bytes}
use Rattle.coherence_model.specs.Snoops.{whole_block_at}
use Rattle.coherence_model.specs.Transactions.{Transaction, open_at}

-- a copy: its state, and its bytes, which mean something unless the state is I (CXL 3.1, ch. 3: the states I, S, E and M)
pub record Copy : Type 0 where
  pub state : CopyState
  pub bytes : Bytes64

-- no copy (own rule)
abbrev pub no_copy : Copy
no_copy = record { state = CopyState.I; bytes = zero_bytes }

-- a modified copy, after a store (own rule)
abbrev pub modified : Bytes64 → Copy
modified value = record { state = CopyState.M; bytes = value }

-- the copy that is kept as a shared one (own rule)
abbrev pub shared : Copy → Copy
shared old = record old { state = CopyState.S }

-- the state that a grant gives: S for Cmp-S, E for Cmp-E (CXL 3.1, ch. 3: Cmp-S and Cmp-E)
abbrev pub granted_state : NdrOp → CopyState
granted_state NdrOp.Cmp = CopyState.E
granted_state NdrOp.CmpS = CopyState.S
granted_state NdrOp.CmpE = CopyState.E
granted_state NdrOp.ConflictAck = CopyState.E

-- the opcode of an NDR message (CXL 3.1, ch. 3: the messages)
abbrev pub ndr_op_of : Message → Option NdrOp
ndr_op_of (Message.Req _ _ _ _ _) = None
ndr_op_of (Message.MemWr _ _ _ _ _) = None
ndr_op_of (Message.BiConflict _) = None
ndr_op_of (Message.BiRsp _ _ _) = None
ndr_op_of (Message.Ndr op _) = Some op
ndr_op_of (Message.MemData _ _) = None
ndr_op_of (Message.BiSnp _ _ _ _) = None
ndr_op_of (Message.Credit _) = None

-- the grant by which a taken message fills a line: the message itself, or the one that was taken before (own rule)
abbrev pub filling_grant : Message → Option Transaction → Option NdrOp
filling_grant m o = option_or (ndr_op_of m) (option_and_then (λ o. o.grant) o)

-- the copy that a taken message fills for a Load, by what was open before (own rule)
abbrev pub filled : Message → Option Transaction → Bytes64 → Copy
filled m o value = record { state = option_map_or granted_state (filling_grant m o) CopyState.E; bytes = value }

-- the copy of line a after a committed Load on it: a fill makes it, a hit leaves it (own rule)
abbrev pub copy_after_load : ℕ → Cause → Bytes64 → List Event → Copy → Copy
copy_after_load a (Cause.Op _ _ _) value past old = old
copy_after_load a (Cause.Take _ m) value past old = filled m (open_at a past) value
copy_after_load a (Cause.Act _) value past old = old

-- the copy of line a after a committed operation on it: a store makes it M (own rule)
abbrev pub copy_after_commit : ℕ → Cause → Op → Bytes64 → List Event → Copy → Copy
copy_after_commit a cause (Op.Load _) value past old = copy_after_load a cause value past old
copy_after_commit a cause (Op.Word _ _ _) value past old = modified value
copy_after_commit a cause (Op.Whole _ _) value past old = modified value

-- whether a Req opcode asks for a grant: MemRd and MemInv do, MemClnEvct doesn't (CXL 3.1, ch. 3: the opcodes)
abbrev pub asks_for_grant : ReqOp → Bool
asks_for_grant ReqOp.MemRd = true
asks_for_grant ReqOp.MemInv = true
asks_for_grant ReqOp.MemClnEvct = false

-- whether a message gives line a up: a MemClnEvct or MemWr of it (CXL 3.1, ch. 3: the messages)
abbrev pub evicts : ℕ → Message → Bool
evicts a (Message.Req op _ _ _ line) = not (asks_for_grant op) && (line.0 == a)
evicts a (Message.MemWr _ _ _ line _) = line.0 == a
evicts a (Message.BiConflict _) = false
evicts a (Message.BiRsp _ _ _) = false
evicts a (Message.Ndr _ _) = false
evicts a (Message.MemData _ _) = false
evicts a (Message.BiSnp _ _ _ _) = false
evicts a (Message.Credit _) = false

-- the copy of line a after the messages of an operation: an evicted victim's is gone (own rule)
abbrev pub copy_after_op : ℕ → Sends → Copy → Copy
copy_after_op a Sends.Nothing old = old
copy_after_op a (Sends.One _) old = old
copy_after_op a (Sends.Two v _) old = if evicts a v.message then no_copy else old

-- whether a Meta0-State is Shared (CXL 3.1, ch. 3: Meta0-State)
abbrev pub is_shared_meta : Meta → Bool
is_shared_meta Meta.Invalid = false
is_shared_meta Meta.Any = false
is_shared_meta Meta.Shared = true

-- whether a BIRsp opcode is BIRspS (CXL 3.1, ch. 3: the opcodes)
abbrev pub is_shared_response : RspOp → Bool
is_shared_response RspOp.I = false
is_shared_response RspOp.S = true
is_shared_response RspOp.E = false
is_shared_response RspOp.IBlk = false
is_shared_response RspOp.SBlk = false
is_shared_response RspOp.EBlk = false

-- whether a host keeps a shared copy beside this message: MemWr Shared and BIRspS say so (CXL 3.1, ch. 3: BIRspS; own rule: MemWr Shared)
abbrev pub keeps_shared : Message → Bool
keeps_shared (Message.Req _ _ _ _ _) = false
keeps_shared (Message.MemWr meta _ _ _ _) = is_shared_meta meta
keeps_shared (Message.BiConflict _) = false
keeps_shared (Message.BiRsp op _ _) = is_shared_response op
keeps_shared (Message.Ndr _ _) = false
keeps_shared (Message.MemData _ _) = false
keeps_shared (Message.BiSnp _ _ _ _) = false
keeps_shared (Message.Credit _) = false

-- the copy after a write-back or an answer: S where the message says so, else I (own rule)
abbrev pub copy_after_response : Sends → Copy → Copy
copy_after_response Sends.Nothing old = old
copy_after_response (Sends.One o) old = if keeps_shared o.message then shared old else no_copy
copy_after_response (Sends.Two _ _) old = old

-- whether the block that AnswerBlock answers has line a (own rule)
abbrev pub is_in_whole_block : ℕ → ℕ → List Event → Bool
is_in_whole_block first a mine = option_map_or (λ s. is_in a s.unanswered) (whole_block_at first mine) false

-- the copy of line a after an act of the host (own rule)
abbrev pub copy_after_act : ℕ → Act → Sends → List Event → Copy → Copy
copy_after_act a (Act.Conflict _) sends past old = old
copy_after_act a (Act.WriteBack line) sends past old = if line.0 == a then copy_after_response sends old else old
copy_after_act a (Act.Answer line) sends past old = if line.0 == a then copy_after_response sends old else old
copy_after_act a (Act.AnswerBlock line) sends past old = if is_in_whole_block line.0 a past then no_copy else old
copy_after_act a (Act.HostReturn _) sends past old = old
copy_after_act a (Act.Serve _ _) sends past old = old
copy_after_act a (Act.Clean _ _) sends past old = old
copy_after_act a (Act.Start _ _) sends past old = old
copy_after_act a (Act.Evict _ _) sends past old = old
copy_after_act a (Act.Snoop _ _) sends past old = old
copy_after_act a (Act.Finish _) sends past old = old
copy_after_act a (Act.DeviceReturn _ _) sends past old = old

-- the copy of line a after an event without a commit on it (own rule)
abbrev pub copy_after_cause : ℕ → Cause → Sends → List Event → Copy → Copy
copy_after_cause a (Cause.Op _ _ _) sends past old = copy_after_op a sends old
copy_after_cause a (Cause.Take _ _) sends past old = old
copy_after_cause a (Cause.Act act) sends past old = copy_after_act a act sends past old

-- the copy of line a after an event, by its commit or else by its cause (own rule)
abbrev pub copy_after : ℕ → Cause → Sends → Option Commit → List Event → Copy → Copy
copy_after a cause sends None past old = copy_after_cause a cause sends past old
copy_after a cause sends (Some c) past old =
    if line_of c.op == a then copy_after_commit a cause c.op c.value past old else copy_after_cause a cause sends past old
