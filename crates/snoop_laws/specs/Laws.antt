-- Laws of where each snooped line is, after every run of a setup.
use Rattle.std.specs.Prelude.{IsTrue, List, Some, ℕ, ◌≡◌}
use Rattle.cxl_message.specs.declared.channels.Channel.{Channel}
use Rattle.cxl_message.specs.declared.events.Event.{Event}
use Rattle.cxl_message.specs.declared.identifiers.BiTag.{BiTag}
use Rattle.cxl_message.specs.declared.identifiers.Bytes64.{Bytes64}
use Rattle.cxl_message.specs.declared.identifiers.Line.{Line}
use Rattle.cxl_message.specs.declared.messages.Message.{Message}
use Rattle.cxl_message.specs.declared.opcodes.RspOp.{RspOp}
use Rattle.cxl_message.specs.declared.opcodes.SnpOp.{SnpOp}
use Rattle.cxl_message.specs.declared.opcodes.Span.{Span}
use Rattle.cxl_message.specs.Lists.{is_in}
use Rattle.cxl_message.specs.Setup.{Configuration, IsWithinLimits}
use Rattle.coherence_model.specs.DeviceActs.{snoop_op}
use Rattle.coherence_model.specs.DeviceTakes.{device_takes}
use Rattle.coherence_model.specs.DirectoryChanges.{directory}
use Rattle.coherence_model.specs.Emission.{nothing}
use Rattle.coherence_model.specs.Fitting.{is_host}
use Rattle.coherence_model.specs.Flight.{in_flight, is_takeable}
use Rattle.coherence_model.specs.HostTakes.{host_takes}
use Rattle.coherence_model.specs.Runs.{IsRun}
use Rattle.coherence_model.specs.SentSnoops.{SentSnoop, sent_snoop_at}
use Rattle.coherence_model.specs.SnoopFacts.{snoops_are_placed}
use Rattle.coherence_model.specs.Snoops.{Snoop, snoop_at}
use Rattle.coherence_model.specs.Tasks.{Task}
use Rattle.coherence_model.specs.Traces.{device, events_of}

-- a fact on a trace and a host of the setup holds after every run
abbrev pub ForEachHost : (Configuration → List Event → ℕ → Type 0) → Type 0
ForEachHost Fact =
    (setup : Configuration) (opening : List (Line × Bytes64)) → IsWithinLimits setup → (t : List Event) → IsRun setup opening t
    → (h : ℕ) → IsTrue (is_host setup h) → Fact setup t h

-- ---- where lines are

-- each line of a snoop is in exactly one place, each snoop has its task, and each answer its snoop
abbrev pub SnoopsArePlaced : Type 0
SnoopsArePlaced =
    (setup : Configuration) (opening : List (Line × Bytes64)) → IsWithinLimits setup → (t : List Event) → IsRun setup opening t → IsTrue (snoops_are_placed setup t)

-- ---- tasks and snoops

-- the task with a first line stands, and a snoop has its opcode and its span
pub record IsSnoopOfTask (setup : Configuration) (mine : List Event) (first : ℕ) (q : SentSnoop) : Type 0 where
  pub task : Task
  pub stands : (directory setup mine).task first ≡ Some task
  pub op : q.op ≡ snoop_op task.purpose task.span
  pub span : q.span ≡ task.span

-- a snoop with a line without an answer is one of a standing task
abbrev pub SentSnoopsHaveTasks : Type 0
SentSnoopsHaveTasks =
    (setup : Configuration) (opening : List (Line × Bytes64)) (t : List Event) → IsRun setup opening t → (h first : ℕ) (q : SentSnoop)
    → sent_snoop_at h first (events_of device t) ≡ Some q → IsSnoopOfTask setup (events_of device t) first q

-- the snoop with a first line was sent with this opcode and this span, and has no answer yet for line a
pub record WasSentFor (mine : List Event) (h : ℕ) (op : SnpOp) (first : ℕ) (span : Span) (a : ℕ) : Type 0 where
  pub sent : SentSnoop
  pub asked : sent_snoop_at h first mine ≡ Some sent
  pub op_same : sent.op ≡ op
  pub span_same : sent.span ≡ span
  pub unanswered : IsTrue (is_in a sent.unanswered)

-- the snoop by which a line is Snooped was sent to the host with its opcode and span, and the line has no answer taken
abbrev pub HeldSnoopsWereSent : Type 0
HeldSnoopsWereSent =
    ForEachHost (λ setup t h. (a : ℕ) (s : Snoop) → snoop_at a (events_of h t) ≡ Some s → WasSentFor (events_of device t) h s.op s.first s.span a)

-- ---- takeable messages

-- an answer that may be taken has its row's condition
abbrev pub AnswersMayBeTaken : Type 0
AnswersMayBeTaken =
    ForEachHost (λ setup t h. (op : RspOp) (bitag : BiTag) (low : ℕ) → IsTrue (is_takeable (Message.BiRsp op bitag low) (in_flight h Channel.BiRsp t))
    → device_takes setup h (Message.BiRsp op bitag low) (events_of device t) ≡ Some nothing)

-- a snoop that may be taken has its row's condition
abbrev pub SnoopsMayBeTaken : Type 0
SnoopsMayBeTaken =
    ForEachHost (λ setup t h. (op : SnpOp) (bitag : BiTag) (line : Line) (span : Span) → IsTrue (is_takeable (Message.BiSnp op bitag line span) (in_flight h Channel.BiSnp t))
    → host_takes setup h (Message.BiSnp op bitag line span) (events_of h t) ≡ Some nothing)
