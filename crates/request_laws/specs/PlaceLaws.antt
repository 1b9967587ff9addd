-- Laws of every run on where each open request, eviction, write-back and conflict is.
use Rattle.std.specs.Prelude.{IsTrue, List, None, Some, count_by, false, is_some, true, ℕ, ◌+◌, ◌≡◌}
use Rattle.cxl_message.specs.declared.events.Event.{Event}
use Rattle.cxl_message.specs.declared.identifiers.Bytes64.{Bytes64}
use Rattle.cxl_message.specs.declared.identifiers.Line.{Line}
use Rattle.std.specs.List.{list_any}
use Rattle.cxl_message.specs.declared.channels.Channel.{Channel}
use Rattle.cxl_message.specs.declared.messages.Message.{Message}
use Rattle.cxl_message.specs.declared.opcodes.NdrOp.{NdrOp}
use Rattle.cxl_message.specs.Messages.{acknowledges, has_tag, message_eq}
use Rattle.cxl_message.specs.Setup.{Configuration, IsWithinLimits}
use Rattle.coherence_model.specs.DirectoryChanges.{directory}
use Rattle.coherence_model.specs.Fitting.{is_host}
use Rattle.coherence_model.specs.Flight.{in_flight}
use Rattle.coherence_model.specs.HostTakes.{h3_completion, h3_data, h3_grant, h5_conflict_ack, is_write_back_tag}
use Rattle.coherence_model.specs.OwnerFacts.{is_open_so, purpose_fits}
use Rattle.coherence_model.specs.RequestFacts.{conflict_is_placed, grants, is_request_with, is_task_of, ndr_count, open_is_placed, requests_under_way, writes_under_way}
use Rattle.coherence_model.specs.Runs.{IsRun}
use Rattle.coherence_model.specs.Tags.{is_conflict_open, is_conflict_with, open_with}
use Rattle.coherence_model.specs.Tasks.{Task}
use Rattle.coherence_model.specs.Traces.{device, events_of}
use Rattle.coherence_model.specs.Transactions.{Transaction, open_at}
use Rattle.coherence_model.specs.WriteBacks.{completes, is_write_back_open}
use Rattle.request_laws.specs.Writes.{is_write_of}

-- after every run what is open for a line of a host, if anything, is in exactly one place
abbrev pub OpenLinesArePlaced : Type 0
OpenLinesArePlaced =
    (setup : Configuration) (opening : List (Line × Bytes64)) → IsWithinLimits setup → (h : ℕ) → IsTrue (is_host setup h) → (t : List Event) → IsRun setup opening t
    → (a : ℕ) → IsTrue (open_is_placed setup h a t)

-- after every run each open conflict of a host is in exactly one place
abbrev pub ConflictsArePlaced : Type 0
ConflictsArePlaced =
    (setup : Configuration) (opening : List (Line × Bytes64)) → IsWithinLimits setup → (h : ℕ) → IsTrue (is_host setup h) → (t : List Event) → IsRun setup opening t
    → (tag : ℕ) → is_conflict_open tag (events_of h t) ≡ true → IsTrue (conflict_is_placed h tag t)

-- and of a tag whose conflict isn't open no BIConflict and no BI-ConflictAck is under way
abbrev pub OtherConflictsAreNowhere : Type 0
OtherConflictsAreNowhere =
    (setup : Configuration) (opening : List (Line × Bytes64)) → IsWithinLimits setup → (h : ℕ) → IsTrue (is_host setup h) → (t : List Event) → IsRun setup opening t
    → (tag : ℕ) → is_conflict_open tag (events_of h t) ≡ false → count_by (is_conflict_with tag) (writes_under_way h t) + ndr_count acknowledges h tag t ≡ 0

-- after every run each Req message with the tag of what is open is the one that opened it: of its kind, and for its line
abbrev pub RequestsNameTheirLine : Type 0
RequestsNameTheirLine =
    (setup : Configuration) (opening : List (Line × Bytes64)) → IsWithinLimits setup → (h : ℕ) → IsTrue (is_host setup h) → (t : List Event) → IsRun setup opening t
    → (a : ℕ) (o : Transaction) → open_at a (events_of h t) ≡ Some o
    → count_by (has_tag o.tag) (requests_under_way h t) ≡ count_by (is_request_with o.kind a o.tag) (requests_under_way h t)

-- after every run a write-back in progress is in exactly one place: its MemWr in flight or buffered, or its Cmp in flight
abbrev pub WriteBacksArePlaced : Type 0
WriteBacksArePlaced =
    (setup : Configuration) (opening : List (Line × Bytes64)) → IsWithinLimits setup → (h : ℕ) → IsTrue (is_host setup h) → (t : List Event) → IsRun setup opening t
    → is_write_back_open setup (events_of h t) ≡ true → count_by (is_write_of setup.tags) (writes_under_way h t) + ndr_count completes h setup.tags t ≡ 1

-- and where none is in progress no such message is under way
abbrev pub OtherWriteBacksAreNowhere : Type 0
OtherWriteBacksAreNowhere =
    (setup : Configuration) (opening : List (Line × Bytes64)) → IsWithinLimits setup → (h : ℕ) → IsTrue (is_host setup h) → (t : List Event) → IsRun setup opening t
    → is_write_back_open setup (events_of h t) ≡ false → count_by (is_write_of setup.tags) (writes_under_way h t) + ndr_count completes h setup.tags t ≡ 0

-- the messages of a tag with which nothing is open: no Req, no grant and no MemData
pub record IsUnused (h tag : ℕ) (t : List Event) : Type 0 where
  pub requests : count_by (has_tag tag) (requests_under_way h t) ≡ 0
  pub granted : ndr_count grants h tag t ≡ 0
  pub data_sent : count_by (has_tag tag) (in_flight h Channel.Drs t) ≡ 0

-- after every run nothing is under way with a tag with which nothing is open
abbrev pub UnusedTagsAreNowhere : Type 0
UnusedTagsAreNowhere =
    (setup : Configuration) (opening : List (Line × Bytes64)) → IsWithinLimits setup → (h : ℕ) → IsTrue (is_host setup h) → (t : List Event) → IsRun setup opening t
    → (tag : ℕ) → open_with tag (events_of h t) ≡ None → IsUnused h tag t

-- after every run each request task of a host's tag stands at the line whose request is open with it, and is for its kind
abbrev pub TasksHaveRequests : Type 0
TasksHaveRequests =
    (setup : Configuration) (opening : List (Line × Bytes64)) → IsWithinLimits setup → (h : ℕ) → IsTrue (is_host setup h) → (t : List Event) → IsRun setup opening t
    → (tag a : ℕ) (task : Task) → (directory setup (events_of device t)).task a ≡ Some task → is_task_of h tag task ≡ true
    → IsTrue (is_open_so (purpose_fits task.purpose) tag (open_at a (events_of h t)))

-- after every run the row of each Cmp in flight to a host holds there, credits aside
abbrev pub CompletionsMayBeTaken : Type 0
CompletionsMayBeTaken =
    (setup : Configuration) (opening : List (Line × Bytes64)) → IsWithinLimits setup → (h : ℕ) → IsTrue (is_host setup h) → (t : List Event) → IsRun setup opening t
    → (tag : ℕ) → IsTrue (list_any (message_eq (Message.Ndr NdrOp.Cmp (record { 0 = tag }))) (in_flight h Channel.Ndr t))
    → IsTrue (is_some (h3_completion (is_write_back_tag setup tag (events_of h t)) (open_with tag (events_of h t))))

-- so does that of each Cmp-E
abbrev pub OwningGrantsMayBeTaken : Type 0
OwningGrantsMayBeTaken =
    (setup : Configuration) (opening : List (Line × Bytes64)) → IsWithinLimits setup → (h : ℕ) → IsTrue (is_host setup h) → (t : List Event) → IsRun setup opening t
    → (tag : ℕ) → IsTrue (list_any (message_eq (Message.Ndr NdrOp.CmpE (record { 0 = tag }))) (in_flight h Channel.Ndr t))
    → IsTrue (is_some (h3_grant NdrOp.CmpE (open_with tag (events_of h t))))

-- so does that of each MemData
abbrev pub DataMayBeTaken : Type 0
DataMayBeTaken =
    (setup : Configuration) (opening : List (Line × Bytes64)) → IsWithinLimits setup → (h : ℕ) → IsTrue (is_host setup h) → (t : List Event) → IsRun setup opening t
    → (tag : ℕ) (bytes : Bytes64) → IsTrue (list_any (message_eq (Message.MemData (record { 0 = tag }) bytes)) (in_flight h Channel.Drs t))
    → IsTrue (is_some (h3_data bytes (open_with tag (events_of h t))))

-- so does that of each BI-ConflictAck
abbrev pub AcksMayBeTaken : Type 0
AcksMayBeTaken =
    (setup : Configuration) (opening : List (Line × Bytes64)) → IsWithinLimits setup → (h : ℕ) → IsTrue (is_host setup h) → (t : List Event) → IsRun setup opening t
    → (tag : ℕ) → IsTrue (list_any (message_eq (Message.Ndr NdrOp.ConflictAck (record { 0 = tag }))) (in_flight h Channel.Ndr t))
    → IsTrue (is_some (h5_conflict_ack tag (events_of h t)))
