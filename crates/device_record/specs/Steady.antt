-- What holds of the record of a device that stands for a list of its own events, and makes each of its steps possible: what is named exists, and there is room.
use Rattle.std.specs.Prelude.{List, Some, [], false, length, option_and_then, suc, true, ℕ, ◌+◌, ◌<◌, ◌∷◌, ◌≡◌, ◌≤◌}
use Rattle.cxl_message.specs.declared.opcodes.Span.{Span}
use Rattle.cxl_message.specs.declared.identifiers.Bytes64.{Bytes64}
use Rattle.cxl_message.specs.Codes.{span_len}
use Rattle.cxl_message.specs.Lists.{is_in}
use Rattle.cxl_message.specs.Setup.{Configuration, IsWithinLimits}
use Rattle.coherence_model.specs.Buffers.{message_with}
use Rattle.coherence_model.specs.DeviceActs.{Request}
use Rattle.coherence_model.specs.Memory.{write_in}
use Rattle.coherence_model.specs.Room.{Room}
use Rattle.coherence_model.specs.Tasks.{is_eviction}
use Rattle.snoop_filter.specs.Filters.{FilterRecord}
use Rattle.snoop_filter.specs.Rows.{held_in}
use Rattle.device_record.specs.Answers.{request_of}
use Rattle.device_record.specs.Record.{CreditRecord, DeviceRecord, TaskRecord, WaitingRequest, credits_at, left_at, request_with, requests_at, task_at, writes_at}

-- each table has a place for each line or host of the setup, and the filter is one of the setup (own rule)
pub record HasTables (setup : Configuration) (k : DeviceRecord) : Type 0 where
  pub memory : length k.memory ≡ setup.lines
  pub requests : length k.requests ≡ setup.hosts
  pub writes : length k.writes ≡ setup.hosts
  pub credits : length k.credits ≡ setup.hosts
  pub filter_hosts : k.filter.hosts ≡ setup.hosts
  pub filter_lines : k.filter.lines ≡ setup.lines
  pub filter_entries : k.filter.entries ≡ setup.entries

-- what is held of the channels of a host is at most the credits, and so is what is left (own rule)
pub record IsCredited (credits : ℕ) (c : CreditRecord) : Type 0 where
  pub req : c.req_held ≤ credits
  pub rwd : c.rwd_held ≤ credits
  pub rsp : c.rsp_held ≤ credits
  pub ndr : c.ndr_left ≤ credits
  pub drs : c.drs_left ≤ credits
  pub snp : c.snp_left ≤ credits

-- a task is over lines of the setup that are held, for a host of it; one of a request is over one line, and what a host has left is some of its lines (own rule)
pub record IsPlaced (setup : Configuration) (k : DeviceRecord) (t : TaskRecord) : Type 0 where
  pub within : t.first + span_len t.span ≤ setup.lines
  pub host : t.host < setup.hosts
  pub single : is_eviction t.purpose ≡ false → t.span ≡ Span.One
  pub held : (a : ℕ) → t.first ≤ a → a < t.first + span_len t.span → held_in a k.filter.rows ≡ true
  pub left : (h a : ℕ) → is_in a (left_at h t) ≡ true → (t.first ≤ a) × (a < t.first + span_len t.span)

-- the tasks' first lines ascend from n on (own rule)
abbrev pub AscendFrom : ℕ → List TaskRecord → Type 0
AscendFrom n [] = Unit {0}
AscendFrom n (t ∷ ts) = (n ≤ t.first) × AscendFrom (suc t.first) ts

-- all of it (own rule)
pub record IsSteady (setup : Configuration) (k : DeviceRecord) : Type 0 where
  pub limits : IsWithinLimits setup
  pub tables : HasTables setup k
  pub entries : length k.filter.rows + k.filter.reserved ≤ setup.entries
  pub credits : (h : ℕ) → IsCredited setup.credits (credits_at h k.credits)
  pub requests : (h : ℕ) → length (requests_at h k.requests) ≤ (credits_at h k.credits).req_held
  pub writes : (h : ℕ) → length (writes_at h k.writes) ≤ (credits_at h k.credits).rwd_held
  pub lines : (h tag : ℕ) (w : WaitingRequest) (r : Request) → request_with tag (requests_at h k.requests) ≡ Some w → request_of w ≡ Some r → r.line < setup.lines
  pub reservations : (h tag : ℕ) (w : WaitingRequest) → request_with tag (requests_at h k.requests) ≡ Some w → w.room ≡ Room.Reservation → 1 ≤ k.filter.reserved
  pub written : (h tag : ℕ) (w : ℕ × Bytes64) → option_and_then write_in (message_with tag (writes_at h k.writes)) ≡ Some w → w.0 < setup.lines
  pub tasks : (a : ℕ) (t : TaskRecord) → task_at a k.tasks ≡ Some t → IsPlaced setup k t
  pub ascend : AscendFrom 0 k.tasks
  pub listed : length k.tasks ≤ setup.lines
