-- The rows V3 to V9 of the device: what an act sends after the device's own events, newest first. None where the row's condition fails.
use Rattle.std.specs.Prelude.{Bool, List, None, Option, Some, false, if◌then◌else◌, is_some, nat_le, not, option_and_then, option_map, true, ℕ, ◌&&◌, ◌==◌, ◌||◌}
use Rattle.std.specs.List.{list_all, list_any}
use Rattle.cxl_message.specs.declared.channels.Channel.{Channel}
use Rattle.cxl_message.specs.declared.events.Act.{Act}
use Rattle.cxl_message.specs.declared.events.Event.{Event}
use Rattle.cxl_message.specs.declared.identifiers.Bytes64.{Bytes64}
use Rattle.cxl_message.specs.declared.identifiers.Line.{Line}
use Rattle.cxl_message.specs.declared.identifiers.Tag.{Tag}
use Rattle.cxl_message.specs.declared.messages.Message.{Message}
use Rattle.cxl_message.specs.declared.opcodes.NdrOp.{NdrOp}
use Rattle.cxl_message.specs.declared.opcodes.ReqOp.{ReqOp}
use Rattle.cxl_message.specs.declared.opcodes.SnpOp.{SnpOp}
use Rattle.cxl_message.specs.declared.opcodes.Span.{Span}
use Rattle.cxl_message.specs.Lists.{below}
use Rattle.cxl_message.specs.Setup.{Configuration}
use Rattle.coherence_model.specs.Buffers.{buffered_requests, buffered_writes, device_owed, message_with}
use Rattle.coherence_model.specs.Copies.{asks_for_grant}
use Rattle.coherence_model.specs.Directory.{Directory, has_entry, is_busy, is_listed, is_to_ask, victim_block}
use Rattle.coherence_model.specs.DirectoryChanges.{directory}
use Rattle.coherence_model.specs.Emission.{Emission, nothing, one_send, two_sends}
use Rattle.coherence_model.specs.Memory.{memory}
use Rattle.coherence_model.specs.Room.{Room, free_entries, is_no_eviction, request_room}
use Rattle.coherence_model.specs.SentSnoops.{is_asked}
use Rattle.coherence_model.specs.Tasks.{Purpose, Task}
use Rattle.coherence_model.specs.Words.{when}

-- a buffered Req message: its opcode, its Tag and its line (CXL 3.1, ch. 3: M2S Req)
pub record Request : Type 0 where
  pub op : ReqOp
  pub tag : Tag
  pub line : ℕ

-- the Req message that a message is (CXL 3.1, ch. 3: the messages)
abbrev pub request_in : Message → Option Request
request_in (Message.Req op _ _ tag line) = Some (record { op = op; tag = tag; line = line.0 })
request_in (Message.MemWr _ _ _ _ _) = None
request_in (Message.BiConflict _) = None
request_in (Message.BiRsp _ _ _) = None
request_in (Message.Ndr _ _) = None
request_in (Message.MemData _ _) = None
request_in (Message.BiSnp _ _ _ _) = None
request_in (Message.Credit _) = None

-- the buffered Req message of host h with a tag (own rule)
abbrev pub buffered_request : ℕ → Tag → List Event → Option Request
buffered_request h tag mine = option_and_then request_in (message_with tag.0 (buffered_requests h mine))

-- the answer to a served message: Cmp to MemWr, BI-ConflictAck to BIConflict, with its Tag (CXL 3.1, ch. 3)
abbrev pub served_by : Message → Option Message
served_by (Message.Req _ _ _ _ _) = None
served_by (Message.MemWr _ _ tag _ _) = Some (Message.Ndr NdrOp.Cmp tag)
served_by (Message.BiConflict tag) = Some (Message.Ndr NdrOp.ConflictAck tag)
served_by (Message.BiRsp _ _ _) = None
served_by (Message.Ndr _ _) = None
served_by (Message.MemData _ _) = None
served_by (Message.BiSnp _ _ _ _) = None
served_by (Message.Credit _) = None

-- V3: a buffered RwD message is answered (own rule)
abbrev pub v3_serve : ℕ → Option Message → Option Emission
v3_serve h m = option_map (one_send h) (option_and_then served_by m)

-- V4: a buffered MemClnEvct whose line isn't Busy is answered by Cmp (CXL 3.1, ch. 3: Cmp; own rule: when)
abbrev pub v4_clean : ℕ → Option Request → Directory → Option Emission
v4_clean h None D = None
v4_clean h (Some r) D = when (not (asks_for_grant r.op) && not (is_busy D r.line)) (one_send h (Message.Ndr NdrOp.Cmp r.tag))

-- whether a request for line a has room: its line has an entry, it has a reservation, or an entry is free; none while its eviction is in progress (own rule)
abbrev pub has_entry_room : Configuration → Room → ℕ → Directory → List Event → Bool
has_entry_room setup Room.NoEviction a D mine = has_entry setup D a || nat_le 1 (free_entries setup mine)
has_entry_room setup Room.EvictionInProgress a D mine = false
has_entry_room setup Room.Reservation a D mine = true

-- V5: a buffered MemRd or MemInv whose line isn't Busy starts where there is room for it (own rule)
abbrev pub v5_start : Configuration → ℕ → Option Request → Directory → List Event → Option Emission
v5_start setup h None D mine = None
v5_start setup h (Some r) D mine =
    when (asks_for_grant r.op && not (is_busy D r.line) && has_entry_room setup (request_room setup h r.tag.0 mine) r.line D mine) nothing

-- whether a request for line a wants an eviction: no entry, none in progress or finished for it, and none free (own rule)
abbrev pub wants_eviction : Configuration → Room → ℕ → Directory → List Event → Bool
wants_eviction setup room a D mine = not (has_entry setup D a) && is_no_eviction room && (free_entries setup mine == 0)

-- V6: for a MemRd or MemInv whose line isn't Busy and that wants an eviction, the victim block is evicted (own rule)
abbrev pub v6_evict : Configuration → ℕ → Option Request → Directory → List Event → Option Emission
v6_evict setup h None D mine = None
v6_evict setup h (Some r) D mine =
    when (asks_for_grant r.op && not (is_busy D r.line) && wants_eviction setup (request_room setup h r.tag.0 mine) r.line D mine && is_some (victim_block D)) nothing

-- the opcode of a snoop that takes all copies away: BISnpInv for one line, BISnpInvBlk for more (CXL 3.1, ch. 3: BISnp opcodes)
abbrev pub invalidating_op : Span → SnpOp
invalidating_op Span.One = SnpOp.Inv
invalidating_op Span.Two = SnpOp.InvBlk
invalidating_op Span.Four = SnpOp.InvBlk

-- the opcode of a task's snoops: BISnpData for a MemRd Shared, else one that takes all copies away (CXL 3.1, ch. 3: BISnp opcodes; own rule: which)
abbrev pub snoop_op : Purpose → Span → SnpOp
snoop_op Purpose.SharedRead span = SnpOp.Dat
snoop_op Purpose.OwningRead span = invalidating_op span
snoop_op Purpose.Invalidation span = invalidating_op span
snoop_op Purpose.Eviction span = invalidating_op span

-- the snoop of a task with first line a; its BITag is the number of that line (CXL 3.1, ch. 3: BISnp; own rule: the BITag)
abbrev pub snoop_message : ℕ → Task → Message
snoop_message a t = Message.BiSnp (snoop_op t.purpose t.span) (record { 0 = a }) (record { 0 = a }) t.span

-- V7: a host that is to be asked by the task with first line a, and isn't Asked, is snooped (CXL 3.1, ch. 3: BISnp; own rule: when)
abbrev pub v7_snoop : ℕ → ℕ → Option Task → Directory → List Event → Option Emission
v7_snoop h a None D mine = None
v7_snoop h a (Some t) D mine = when (is_to_ask t.purpose D a t h && not (is_asked h a mine)) (one_send h (snoop_message a t))

-- whether no host is Asked by a task or to be asked (own rule)
abbrev pub is_settled : Configuration → ℕ → Task → Directory → List Event → Bool
is_settled setup a t D mine = list_all (λ g. not (is_asked g a mine) && not (is_to_ask t.purpose D a t g)) (below setup.hosts)

-- whether another host than the requester is listed (own rule)
abbrev pub is_shared_with_others : Configuration → ℕ → Task → Directory → Bool
is_shared_with_others setup a t D = list_any (λ g. not (t.host == g) && is_listed D a g) (below setup.hosts)

-- the grant of a shared read: Cmp-S where another host is listed, else Cmp-E (CXL 3.1, ch. 3: Cmp-S and Cmp-E; own rule: which)
abbrev pub shared_grant : Configuration → ℕ → Task → Directory → NdrOp
shared_grant setup a t D = if is_shared_with_others setup a t D then NdrOp.CmpS else NdrOp.CmpE

-- a grant with its data (CXL 3.1, ch. 3: Cmp-S, Cmp-E and MemData)
abbrev pub grant_with_data : NdrOp → ℕ → ℕ → Bytes64 → Emission
grant_with_data c h tag bytes = two_sends h (Message.Ndr c (record { 0 = tag })) (Message.MemData (record { 0 = tag }) bytes)

-- what a finished task sends to its requester: a grant, and MemData for a MemRd; nothing for an eviction (CXL 3.1, ch. 3)
abbrev pub finish_emission : Purpose → NdrOp → ℕ → ℕ → Bytes64 → Emission
finish_emission Purpose.SharedRead c h tag bytes = grant_with_data c h tag bytes
finish_emission Purpose.OwningRead c h tag bytes = grant_with_data NdrOp.CmpE h tag bytes
finish_emission Purpose.Invalidation c h tag bytes = one_send h (Message.Ndr NdrOp.CmpE (record { 0 = tag }))
finish_emission Purpose.Eviction c h tag bytes = nothing

-- V8: a task by which no host is Asked or to be asked is finished (own rule)
abbrev pub v8_finish : Configuration → List (Line × Bytes64) → ℕ → Option Task → Directory → List Event → Option Emission
v8_finish setup opening a None D mine = None
v8_finish setup opening a (Some t) D mine =
    when (is_settled setup a t D mine) (finish_emission t.purpose (shared_grant setup a t D) t.host t.tag (memory opening a mine))

-- whether the device gives credits back for a channel: Req, RwD and BIRsp, whose messages it takes (own rule)
abbrev pub device_returns : Channel → Bool
device_returns Channel.Req = true
device_returns Channel.Rwd = true
device_returns Channel.BiRsp = true
device_returns Channel.Ndr = false
device_returns Channel.Drs = false
device_returns Channel.BiSnp = false
device_returns Channel.CreditUp = false
device_returns Channel.CreditDown = false

-- V9: a used message gives its credit back (own rule)
abbrev pub v9_return : ℕ → Channel → List Event → Option Emission
v9_return h c mine = when (device_returns c && nat_le 1 (device_owed h c mine)) (one_send h (Message.Credit c))

-- V3 to V9: what an act brings; those of a host aren't done by the device (own rule)
abbrev pub device_acts : Configuration → List (Line × Bytes64) → Act → List Event → Option Emission
device_acts setup opening (Act.Conflict _) mine = None
device_acts setup opening (Act.WriteBack _) mine = None
device_acts setup opening (Act.Answer _) mine = None
device_acts setup opening (Act.AnswerBlock _) mine = None
device_acts setup opening (Act.HostReturn _) mine = None
device_acts setup opening (Act.Serve h tag) mine = v3_serve h (message_with tag.0 (buffered_writes h mine))
device_acts setup opening (Act.Clean h tag) mine = v4_clean h (buffered_request h tag mine) (directory setup mine)
device_acts setup opening (Act.Start h tag) mine = v5_start setup h (buffered_request h tag mine) (directory setup mine) mine
device_acts setup opening (Act.Evict h tag) mine = v6_evict setup h (buffered_request h tag mine) (directory setup mine) mine
device_acts setup opening (Act.Snoop h line) mine = let D = directory setup mine in v7_snoop h line.0 (D.task line.0) D mine
device_acts setup opening (Act.Finish line) mine = let D = directory setup mine in v8_finish setup opening line.0 (D.task line.0) D mine
device_acts setup opening (Act.DeviceReturn h c) mine = v9_return h c mine
