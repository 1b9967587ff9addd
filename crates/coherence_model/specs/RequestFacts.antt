-- After every run each open request, eviction, write-back and conflict is in exactly one place.
use Rattle.std.specs.Prelude.{Bool, List, count_by, false, if◌then◌else◌, is_some, not, true, ℕ, ◌&&◌, ◌++◌, ◌+◌, ◌==◌}
use Rattle.std.specs.List.{list_all}
use Rattle.std.specs.Option.{option_map_or}
use Rattle.cxl_message.specs.declared.channels.Channel.{Channel}
use Rattle.cxl_message.specs.declared.events.Event.{Event}
use Rattle.cxl_message.specs.declared.messages.Message.{Message}
use Rattle.cxl_message.specs.declared.opcodes.NdrOp.{NdrOp}
use Rattle.cxl_message.specs.Lists.{below}
use Rattle.cxl_message.specs.Messages.{acknowledges, has_tag}
use Rattle.cxl_message.specs.Setup.{Configuration}
use Rattle.coherence_model.specs.Buffers.{buffered_requests, buffered_writes}
use Rattle.coherence_model.specs.Copies.{ndr_op_of}
use Rattle.coherence_model.specs.DirectoryChanges.{directory}
use Rattle.coherence_model.specs.Flight.{in_flight}
use Rattle.coherence_model.specs.Snoops.{is_snooped}
use Rattle.coherence_model.specs.Stages.{Stage, stage}
use Rattle.coherence_model.specs.Tags.{is_conflict_with}
use Rattle.coherence_model.specs.Tasks.{Task, is_eviction}
use Rattle.coherence_model.specs.Traces.{device, events_of}
use Rattle.coherence_model.specs.Transactions.{Kind, Transaction, is_read, open_at, request_kind}
use Rattle.coherence_model.specs.Words.{implies, one_if}
use Rattle.coherence_model.specs.WriteBacks.{completes}

-- the Req messages of host h that are in flight or buffered (own rule)
abbrev pub requests_under_way : ℕ → List Event → List Message
requests_under_way h t = in_flight h Channel.Req t ++ buffered_requests h (events_of device t)

-- the RwD messages of host h that are in flight or buffered (own rule)
abbrev pub writes_under_way : ℕ → List Event → List Message
writes_under_way h t = in_flight h Channel.Rwd t ++ buffered_writes h (events_of device t)

-- the number of a kind (own rule)
abbrev pub kind_code : Kind → ℕ
kind_code Kind.ReadShared = 0
kind_code Kind.ReadAny = 1
kind_code Kind.Invalidate = 2
kind_code Kind.CleanEviction = 3
kind_code Kind.DirtyEviction = 4

-- whether two kinds are the same (own rule)
abbrev pub kind_eq : Kind → Kind → Bool
kind_eq k l = kind_code k == kind_code l

-- whether a message is a Req of this kind for line a with this tag (CXL 3.1, ch. 3: the messages)
abbrev pub is_request_with : Kind → ℕ → ℕ → Message → Bool
is_request_with kind a tag (Message.Req op meta _ t line) = kind_eq (request_kind op meta) kind && (line.0 == a) && (t.0 == tag)
is_request_with kind a tag (Message.MemWr _ _ _ _ _) = false
is_request_with kind a tag (Message.BiConflict _) = false
is_request_with kind a tag (Message.BiRsp _ _ _) = false
is_request_with kind a tag (Message.Ndr _ _) = false
is_request_with kind a tag (Message.MemData _ _) = false
is_request_with kind a tag (Message.BiSnp _ _ _ _) = false
is_request_with kind a tag (Message.Credit _) = false

-- whether a message is a MemWr for line a with this tag (CXL 3.1, ch. 3: the messages)
abbrev pub is_write_with : ℕ → ℕ → Message → Bool
is_write_with a tag (Message.Req _ _ _ _ _) = false
is_write_with a tag (Message.MemWr _ _ t line _) = (line.0 == a) && (t.0 == tag)
is_write_with a tag (Message.BiConflict _) = false
is_write_with a tag (Message.BiRsp _ _ _) = false
is_write_with a tag (Message.Ndr _ _) = false
is_write_with a tag (Message.MemData _ _) = false
is_write_with a tag (Message.BiSnp _ _ _ _) = false
is_write_with a tag (Message.Credit _) = false

-- whether an NDR opcode grants a request: Cmp-S or Cmp-E (CXL 3.1, ch. 3: the opcodes)
abbrev pub grants : NdrOp → Bool
grants NdrOp.Cmp = false
grants NdrOp.CmpS = true
grants NdrOp.CmpE = true
grants NdrOp.ConflictAck = false

-- whether a message is an NDR message with this tag and such an opcode (CXL 3.1, ch. 3: the messages)
abbrev pub is_ndr_with : (NdrOp → Bool) → ℕ → Message → Bool
is_ndr_with p tag m = option_map_or p (ndr_op_of m) false && has_tag tag m

-- how many messages of this tag with such an opcode are in flight to host h on NDR (own rule)
abbrev pub ndr_count : (NdrOp → Bool) → ℕ → ℕ → List Event → ℕ
ndr_count p h tag t = count_by (is_ndr_with p tag) (in_flight h Channel.Ndr t)

-- whether a task is the one of host h's request with this tag (own rule)
abbrev pub is_task_of : ℕ → ℕ → Task → Bool
is_task_of h tag t = not (is_eviction t.purpose) && (t.host == h) && (t.tag == tag)

-- 1 where the task with first line a is that of host h's request with this tag (own rule)
abbrev pub task_count : Configuration → ℕ → ℕ → ℕ → List Event → ℕ
task_count setup h a tag t = one_if (option_map_or (is_task_of h tag) ((directory setup (events_of device t)).task a) false)

-- how often a request was granted: its grant is in flight, or was taken (own rule)
abbrev pub grant_count : ℕ → List Event → Transaction → ℕ
grant_count h t o = ndr_count grants h o.tag t + one_if (is_some o.grant)

-- how many MemData a request has: in flight, or taken (own rule)
abbrev pub data_count : ℕ → List Event → Transaction → ℕ
data_count h t o = count_by (has_tag o.tag) (in_flight h Channel.Drs t) + one_if (is_some o.bytes)

-- a request is in one place: in flight, buffered, in its task, or granted, with MemData for a read (own rule)
abbrev pub request_is_placed : Configuration → ℕ → ℕ → List Event → Transaction → Bool
request_is_placed setup h a t o =
    (count_by (is_request_with o.kind a o.tag) (requests_under_way h t) + task_count setup h a o.tag t + grant_count h t o == 1)
    && (data_count h t o == (if is_read o.kind then grant_count h t o else 0))

-- a MemClnEvct is in one place: in flight, buffered, or its Cmp is in flight (own rule)
abbrev pub clean_is_placed : ℕ → ℕ → ℕ → List Event → Bool
clean_is_placed h a tag t = count_by (is_request_with Kind.CleanEviction a tag) (requests_under_way h t) + ndr_count completes h tag t == 1

-- a MemWr with a tag is in one place: in flight, buffered, or its Cmp is in flight (own rule)
abbrev pub write_is_placed : ℕ → ℕ → ℕ → List Event → Bool
write_is_placed h a tag t = count_by (is_write_with a tag) (writes_under_way h t) + ndr_count completes h tag t == 1

-- what is open for line a is in one place, by its kind (own rule)
abbrev pub kind_is_placed : Kind → Configuration → ℕ → ℕ → List Event → Transaction → Bool
kind_is_placed Kind.ReadShared setup h a t o = request_is_placed setup h a t o
kind_is_placed Kind.ReadAny setup h a t o = request_is_placed setup h a t o
kind_is_placed Kind.Invalidate setup h a t o = request_is_placed setup h a t o
kind_is_placed Kind.CleanEviction setup h a t o = clean_is_placed h a o.tag t
kind_is_placed Kind.DirtyEviction setup h a t o = write_is_placed h a o.tag t

-- what is open for line a, if anything, is in one place (own rule)
abbrev pub open_is_placed : Configuration → ℕ → ℕ → List Event → Bool
open_is_placed setup h a t = option_map_or (λ o. kind_is_placed o.kind setup h a t o) (open_at a (events_of h t)) true

-- a conflict with this tag is in one place: its BIConflict is in flight or buffered, or its BI-ConflictAck is in flight (own rule)
abbrev pub conflict_is_placed : ℕ → ℕ → List Event → Bool
conflict_is_placed h tag t = count_by (is_conflict_with tag) (writes_under_way h t) + ndr_count acknowledges h tag t == 1

-- a snooped line's write-back or conflict, by its stage, is in one place (own rule)
abbrev pub stage_is_placed_by : Stage → Configuration → ℕ → ℕ → List Event → Bool
stage_is_placed_by Stage.New setup h a t = true
stage_is_placed_by (Stage.Asked tag) setup h a t = conflict_is_placed h tag t
stage_is_placed_by Stage.Early setup h a t = true
stage_is_placed_by Stage.Late setup h a t = true
stage_is_placed_by Stage.Writing setup h a t = write_is_placed h a setup.tags t
stage_is_placed_by Stage.Written setup h a t = true

-- what line a's stage waits for, if it is Snooped, is in one place (own rule)
abbrev pub stage_is_placed : Configuration → ℕ → ℕ → List Event → Bool
stage_is_placed setup h a t = implies (is_snooped a (events_of h t)) (stage_is_placed_by (stage setup a (events_of h t)) setup h a t)

-- each open request and eviction, each write-back and each conflict of host h is in one place (own rule)
abbrev pub lines_are_placed : Configuration → List Event → ℕ → Bool
lines_are_placed setup t h = list_all (λ a. open_is_placed setup h a t && stage_is_placed setup h a t) (below setup.lines)
