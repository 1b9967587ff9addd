-- What the rows of the device ask of the parts that they change, and what they leave of the filter.
use Rattle.std.specs.Prelude.{IsSome, List, Option, Some, false, length, option_and_then, true, ℕ, ◌+◌, ◌<◌, ◌≡◌, ◌≤◌}
use Rattle.cxl_message.specs.declared.events.Out.{Out}
use Rattle.cxl_message.specs.declared.events.Sends.{Sends}
use Rattle.cxl_message.specs.declared.opcodes.RspOp.{RspOp}
use Rattle.cxl_message.specs.Codes.{span_len}
use Rattle.cxl_message.specs.Lists.{is_in}
use Rattle.coherence_model.specs.Copies.{ndr_op_of}
use Rattle.coherence_model.specs.Room.{Room}
use Rattle.snoop_filter.specs.declared.blocks.Block.{Block}
use Rattle.snoop_filter.specs.Filters.{FilterRecord}
use Rattle.snoop_filter.specs.Rows.{held_in}
use Rattle.snoop_filter.specs.Victims.{victim_in}
use Rattle.device_record.specs.Answers.{is_answer_to}
use Rattle.device_record.specs.Record.{TaskRecord, WaitingRequest, left_at, request_with, requests_at, task_at}
use Rattle.device_record.specs.ReservationChanges.{reserved_finished, reserved_started}
use Rattle.device_record.specs.RowChanges.{line_asked, rows_finished, rows_started}
use Rattle.device_changes.specs.FilterLines.{AreHeld, AreIdle}

-- a request of a host with a tag is buffered, and its line exists (own rule)
pub record IsWaiting (h tag : ℕ) (requests : List (List WaitingRequest)) (lines : ℕ) : Type 0 where
  pub request : WaitingRequest
  pub line : ℕ
  pub found : request_with tag (requests_at h requests) ≡ Some request
  pub asked : line_asked request ≡ Some line
  pub exists : line < lines

-- the filter after Start of a request (own rule)
abbrev pub started_filter : Option WaitingRequest → FilterRecord → FilterRecord
started_filter r f = record f { rows = rows_started f.hosts (option_and_then line_asked r) f.rows; reserved = reserved_started r f.reserved }

-- the line of a request isn't held, its reservation is one of the filter's, and there are entries for what its Start leaves (own rule)
pub record MayStart (h tag : ℕ) (requests : List (List WaitingRequest)) (f : FilterRecord) : Type 0 where
  pub free : (r : WaitingRequest) (a : ℕ) → request_with tag (requests_at h requests) ≡ Some r → line_asked r ≡ Some a → held_in a f.rows ≡ false
  pub reserved : (r : WaitingRequest) → request_with tag (requests_at h requests) ≡ Some r → r.room ≡ Room.Reservation → 1 ≤ f.reserved
  pub room :
      length (started_filter (request_with tag (requests_at h requests)) f).rows + (started_filter (request_with tag (requests_at h requests)) f).reserved ≤ f.entries

-- there is a victim, whose lines exist and are idle (own rule)
pub record HasVictim (f : FilterRecord) : Type 0 where
  pub block : Block
  pub victim : victim_in f.rows ≡ Some block
  pub lines : block.first.0 + span_len block.span ≤ f.lines
  pub idle : AreIdle f.rows block.first.0 (span_len block.span)

-- the task with a first line stands, and its lines exist and are held (own rule)
pub record StandsAt (a : ℕ) (tasks : List TaskRecord) (f : FilterRecord) : Type 0 where
  pub task : TaskRecord
  pub found : task_at a tasks ≡ Some task
  pub lines : a + span_len task.span ≤ f.lines
  pub held : AreHeld f.rows a (span_len task.span)

-- an answer is one to the snoop of a task, of which the host has lines left (own rule)
pub record IsAnswer (op : RspOp) (h a low : ℕ) (tasks : List TaskRecord) (f : FilterRecord) : Type 0 where
  pub stands : StandsAt a tasks f
  pub answers : is_answer_to op h (a + low) stands.task ≡ true
  pub left : (b : ℕ) → is_in b (left_at h stands.task) ≡ true → (a ≤ b) × (b < a + span_len stands.task.span)

-- the filter after Finish of the task of a line (own rule)
abbrev pub finished_filter : ℕ → Sends → Option TaskRecord → FilterRecord → FilterRecord
finished_filter a sends t f = record f { rows = rows_finished a sends t f.rows; reserved = reserved_finished t f.reserved }

-- a completion goes to a host below a number (own rule)
pub record Completes (hosts : ℕ) (o : Out) : Type 0 where
  pub host : o.host < hosts
  pub completion : IsSome (ndr_op_of o.message)

-- if anything is sent, a completion comes first, which goes to a host below a number (own rule)
abbrev pub GrantsTo : ℕ → Sends → Type 0
GrantsTo hosts Sends.Nothing = Unit {0}
GrantsTo hosts (Sends.One o) = Completes hosts o
GrantsTo hosts (Sends.Two o _) = Completes hosts o

-- a task stands that may finish: its grant goes to a host, and there are entries for what its Finish leaves (own rule)
pub record MayFinish (a : ℕ) (sends : Sends) (tasks : List TaskRecord) (f : FilterRecord) (hosts : ℕ) : Type 0 where
  pub stands : StandsAt a tasks f
  pub host : stands.task.host < hosts
  pub grant : GrantsTo f.hosts sends
  pub room : length (finished_filter a sends (task_at a tasks) f).rows + (finished_filter a sends (task_at a tasks) f).reserved ≤ f.entries
