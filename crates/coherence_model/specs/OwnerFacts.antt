-- After every run each message of Req, RwD, NDR and DRS, and each request task, belongs to something that is open, to a write-back or to a conflict.
use Rattle.std.specs.Prelude.{Bool, List, Option, false, if◌then◌else◌, not, true, ℕ, ◌&&◌, ◌++◌, ◌==◌, ◌||◌}
use Rattle.std.specs.List.{list_all, list_any}
use Rattle.std.specs.Option.{option_map_or}
use Rattle.cxl_message.specs.declared.channels.Channel.{Channel}
use Rattle.cxl_message.specs.declared.events.Event.{Event}
use Rattle.cxl_message.specs.declared.messages.Message.{Message}
use Rattle.cxl_message.specs.declared.opcodes.NdrOp.{NdrOp}
use Rattle.cxl_message.specs.Lists.{below}
use Rattle.cxl_message.specs.Setup.{Configuration}
use Rattle.coherence_model.specs.DirectoryChanges.{directory}
use Rattle.coherence_model.specs.Flight.{in_flight}
use Rattle.coherence_model.specs.RequestFacts.{kind_eq, lines_are_placed, requests_under_way, writes_under_way}
use Rattle.coherence_model.specs.Snoops.{is_snooped}
use Rattle.coherence_model.specs.Stages.{Stage, stage}
use Rattle.coherence_model.specs.Tags.{open_with}
use Rattle.coherence_model.specs.Tasks.{Purpose, Task, is_eviction}
use Rattle.coherence_model.specs.Traces.{device, events_of}
use Rattle.coherence_model.specs.Transactions.{Kind, Transaction, is_read, is_request, open_at, request_kind}

-- whether a stage is Writing (own rule)
abbrev pub is_writing : Stage → Bool
is_writing Stage.New = false
is_writing (Stage.Asked _) = false
is_writing Stage.Early = false
is_writing Stage.Late = false
is_writing Stage.Writing = true
is_writing Stage.Written = false

-- whether line a is being written back for a snoop (own rule)
abbrev pub is_written_back : Configuration → ℕ → List Event → Bool
is_written_back setup a mine = is_snooped a mine && is_writing (stage setup a mine)

-- whether a stage is Asked with this tag (own rule)
abbrev pub is_asked_with : ℕ → Stage → Bool
is_asked_with tag Stage.New = false
is_asked_with tag (Stage.Asked t) = t == tag
is_asked_with tag Stage.Early = false
is_asked_with tag Stage.Late = false
is_asked_with tag Stage.Writing = false
is_asked_with tag Stage.Written = false

-- whether some snooped line is Asked with this tag (own rule)
abbrev pub has_conflict_line : Configuration → ℕ → List Event → Bool
has_conflict_line setup tag mine = list_any (λ a. is_snooped a mine && is_asked_with tag (stage setup a mine)) (below setup.lines)

-- whether some line is being written back (own rule)
abbrev pub has_write_back_line : Configuration → List Event → Bool
has_write_back_line setup mine = list_any (λ a. is_written_back setup a mine) (below setup.lines)

-- whether something of such a kind is open with this tag (own rule)
abbrev pub is_open_so : (Kind → Bool) → ℕ → Option Transaction → Bool
is_open_so p tag o = option_map_or (λ o. p o.kind && (o.tag == tag)) o false

-- whether an NDR message belongs to something of a host: Cmp to an eviction or the write-back, a grant to a request, BI-ConflictAck to a conflict (own rule)
abbrev pub ndr_has_owner : Configuration → List Event → NdrOp → ℕ → Bool
ndr_has_owner setup mine NdrOp.Cmp tag = if tag == setup.tags then has_write_back_line setup mine else is_open_so (λ k. not (is_request k)) tag (open_with tag mine)
ndr_has_owner setup mine NdrOp.CmpS tag = is_open_so is_request tag (open_with tag mine)
ndr_has_owner setup mine NdrOp.CmpE tag = is_open_so is_request tag (open_with tag mine)
ndr_has_owner setup mine NdrOp.ConflictAck tag = has_conflict_line setup tag mine

-- whether a Req, RwD, NDR or DRS message belongs to something that is open at a host, to its write-back or to a conflict (own rule)
abbrev pub has_owner : Configuration → List Event → Message → Bool
has_owner setup mine (Message.Req op meta _ tag line) = is_open_so (kind_eq (request_kind op meta)) tag.0 (open_at line.0 mine)
has_owner setup mine (Message.MemWr _ _ tag line _) =
    if tag.0 == setup.tags then is_written_back setup line.0 mine else is_open_so (kind_eq Kind.DirtyEviction) tag.0 (open_at line.0 mine)
has_owner setup mine (Message.BiConflict tag) = has_conflict_line setup tag.0 mine
has_owner setup mine (Message.BiRsp _ _ _) = false
has_owner setup mine (Message.Ndr op tag) = ndr_has_owner setup mine op tag.0
has_owner setup mine (Message.MemData tag _) = is_open_so is_read tag.0 (open_with tag.0 mine)
has_owner setup mine (Message.BiSnp _ _ _ _) = false
has_owner setup mine (Message.Credit _) = false

-- each message of host h on Req, RwD, NDR and DRS, in flight or buffered, has an owner (own rule)
abbrev pub messages_have_owners : Configuration → List Event → ℕ → Bool
messages_have_owners setup t h =
    list_all (has_owner setup (events_of h t)) (requests_under_way h t ++ writes_under_way h t ++ in_flight h Channel.Ndr t ++ in_flight h Channel.Drs t)

-- whether a task's purpose is that of an open request's kind (own rule)
abbrev pub purpose_fits : Purpose → Kind → Bool
purpose_fits Purpose.SharedRead kind = kind_eq kind Kind.ReadShared
purpose_fits Purpose.OwningRead kind = kind_eq kind Kind.ReadAny
purpose_fits Purpose.Invalidation kind = kind_eq kind Kind.Invalidate
purpose_fits Purpose.Eviction kind = false

-- whether a task with first line a is an eviction, or its request is open at its host (own rule)
abbrev pub task_has_request : List Event → ℕ → Task → Bool
task_has_request t a task = is_eviction task.purpose || is_open_so (purpose_fits task.purpose) task.tag (open_at a (events_of task.host t))

-- each request task is that of an open request (own rule)
abbrev pub tasks_have_requests : Configuration → List Event → Bool
tasks_have_requests setup t =
    let D = directory setup (events_of device t) in list_all (λ a. option_map_or (task_has_request t a) (D.task a) true) (below setup.lines)

-- each open request, eviction, write-back and conflict is in exactly one place, and no other message or request task is under way (own rule)
abbrev pub requests_are_placed : Configuration → List Event → Bool
requests_are_placed setup t = list_all (λ h. lines_are_placed setup t h && messages_have_owners setup t h) (below setup.hosts) && tasks_have_requests setup t
