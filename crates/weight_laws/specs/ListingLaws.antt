-- Facts of every run on listings, by which no task asks a host again.
use Rattle.std.specs.Prelude.{IsTrue, List, Some, false, true, ℕ, ◌≡◌}
use Rattle.cxl_message.specs.declared.events.Event.{Event}
use Rattle.cxl_message.specs.declared.identifiers.Bytes64.{Bytes64}
use Rattle.cxl_message.specs.declared.identifiers.Line.{Line}
use Rattle.cxl_message.specs.declared.identifiers.Tag.{Tag}
use Rattle.cxl_message.specs.declared.messages.Message.{Message}
use Rattle.cxl_message.specs.declared.opcodes.Meta.{Meta}
use Rattle.cxl_message.specs.declared.opcodes.SnpType.{SnpType}
use Rattle.cxl_message.specs.Lists.{is_in}
use Rattle.cxl_message.specs.Setup.{Configuration, IsWithinLimits}
use Rattle.cxl_message.specs.Spans.{covers}
use Rattle.coherence_model.specs.Buffers.{buffered_writes, message_with}
use Rattle.coherence_model.specs.Copies.{is_shared_meta}
use Rattle.coherence_model.specs.Directory.{is_listed}
use Rattle.coherence_model.specs.DirectoryChanges.{directory}
use Rattle.coherence_model.specs.Fitting.{is_host}
use Rattle.coherence_model.specs.Runs.{IsRun}
use Rattle.coherence_model.specs.SentSnoops.{SentSnoop, sent_snoop_at}
use Rattle.coherence_model.specs.Tasks.{Purpose, Task, is_eviction}
use Rattle.coherence_model.specs.Traces.{device, events_of}

-- a task over line a serves a shared read
pub record ServesShared (setup : Configuration) (mine : List Event) (a : ℕ) : Type 0 where
  pub first : ℕ
  pub task : Task
  pub stands : (directory setup mine).task first ≡ Some task
  pub covered : covers first task.span a ≡ true
  pub purpose : task.purpose ≡ Purpose.SharedRead

-- a buffered MemWr Shared is for a line of a task that serves a shared read
abbrev pub SharedWritesServeReads : Type 0
SharedWritesServeReads =
    (setup : Configuration) (opening : List (Line × Bytes64)) → IsWithinLimits setup → (t : List Event) → IsRun setup opening t → (h : ℕ) → IsTrue (is_host setup h)
    → (tag : ℕ) (meta : Meta) (snp : SnpType) (own_tag : Tag) (line : Line) (bytes : Bytes64)
    → message_with tag (buffered_writes h (events_of device t)) ≡ Some (Message.MemWr meta snp own_tag line bytes) → is_shared_meta meta ≡ true
    → ServesShared setup (events_of device t) line.0

-- a host whose answer for a line of an evicted block was taken isn't listed for it while the eviction stands
abbrev pub AnsweredHostsAreUnlisted : Type 0
AnsweredHostsAreUnlisted =
    (setup : Configuration) (opening : List (Line × Bytes64)) → IsWithinLimits setup → (t : List Event) → IsRun setup opening t
    → (h first : ℕ) (q : SentSnoop) (task : Task) → sent_snoop_at h first (events_of device t) ≡ Some q → (directory setup (events_of device t)).task first ≡ Some task
    → is_eviction task.purpose ≡ true → (a : ℕ) → covers first task.span a ≡ true → is_in a q.unanswered ≡ false
    → is_listed (directory setup (events_of device t)) a h ≡ false
