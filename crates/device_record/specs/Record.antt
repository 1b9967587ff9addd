-- What the device keeps.
use Rattle.std.specs.Prelude.{List, Option, [], find, length, slice_get, unwrap_or, ℕ, ◌-◌, ◌==◌}
use Rattle.cxl_message.specs.declared.channels.Channel.{Channel}
use Rattle.cxl_message.specs.declared.identifiers.Bytes64.{Bytes64}
use Rattle.cxl_message.specs.declared.messages.Message.{Message}
use Rattle.cxl_message.specs.declared.opcodes.Span.{Span}
use Rattle.cxl_message.specs.Messages.{has_tag}
use Rattle.cxl_message.specs.Opening.{zero_bytes}
use Rattle.coherence_model.specs.Room.{Room}
use Rattle.coherence_model.specs.Tasks.{Purpose}
use Rattle.snoop_filter.specs.Filters.{FilterRecord}

-- a task: its first line, what it is for, its request's host and tag, its span, and for each host the lines of its snoop without an answer taken (own rule)
pub record TaskRecord : Type 0 where
  pub first : ℕ
  pub purpose : Purpose
  pub host : ℕ
  pub tag : ℕ
  pub span : Span
  pub left : List (List ℕ)

-- a buffered Req message: the message, and whether its eviction is in progress or it has a reservation (own rule)
pub record WaitingRequest : Type 0 where
  pub message : Message
  pub room : Room

-- for one host: how many messages of Req, RwD and BIRsp the device holds (buffered or owed), and the credits left of NDR, DRS and BISnp (own rule)
pub record CreditRecord : Type 0 where
  pub req_held : ℕ
  pub rwd_held : ℕ
  pub rsp_held : ℕ
  pub ndr_left : ℕ
  pub drs_left : ℕ
  pub snp_left : ℕ

-- all that is kept: memory by line, the filter, the tasks by ascending first line, and of each host its buffered Req messages, its buffered RwD messages and its credits (own rule)
pub record DeviceRecord : Type 0 where
  pub memory : List Bytes64
  pub filter : FilterRecord
  pub tasks : List TaskRecord
  pub requests : List (List WaitingRequest)
  pub writes : List (List Message)
  pub credits : List CreditRecord

-- the bytes of line a (own rule)
abbrev pub bytes_in : List Bytes64 → ℕ → Bytes64
bytes_in memory a = unwrap_or (slice_get memory a) zero_bytes

-- the task with first line a (own rule)
abbrev pub task_at : ℕ → List TaskRecord → Option TaskRecord
task_at a tasks = find (λ t. t.first == a) tasks

-- the lines that host h was asked for by a task and hasn't answered (own rule)
abbrev pub left_at : ℕ → TaskRecord → List ℕ
left_at h t = unwrap_or (slice_get t.left h) []

-- the buffered Req messages of a host (own rule)
abbrev pub requests_at : ℕ → List (List WaitingRequest) → List WaitingRequest
requests_at h requests = unwrap_or (slice_get requests h) []

-- the buffered RwD messages of a host (own rule)
abbrev pub writes_at : ℕ → List (List Message) → List Message
writes_at h writes = unwrap_or (slice_get writes h) []

-- the buffered Req message with a tag (own rule)
abbrev pub request_with : ℕ → List WaitingRequest → Option WaitingRequest
request_with tag rs = find (λ r. has_tag tag r.message) rs

-- nothing is held, and no credit is left (own rule)
abbrev pub no_credits : CreditRecord
no_credits = record { req_held = 0; rwd_held = 0; rsp_held = 0; ndr_left = 0; drs_left = 0; snp_left = 0 }

-- the credits of host h (own rule)
abbrev pub credits_at : ℕ → List CreditRecord → CreditRecord
credits_at h credits = unwrap_or (slice_get credits h) no_credits

-- the credits left on a channel to a host (own rule)
abbrev pub left_on : Channel → CreditRecord → ℕ
left_on Channel.Req c = 0
left_on Channel.Rwd c = 0
left_on Channel.BiRsp c = 0
left_on Channel.Ndr c = c.ndr_left
left_on Channel.Drs c = c.drs_left
left_on Channel.BiSnp c = c.snp_left
left_on Channel.CreditUp c = 0
left_on Channel.CreditDown c = 0

-- the messages of a channel from a host that are held (own rule)
abbrev pub held_on : Channel → CreditRecord → ℕ
held_on Channel.Req c = c.req_held
held_on Channel.Rwd c = c.rwd_held
held_on Channel.BiRsp c = c.rsp_held
held_on Channel.Ndr c = 0
held_on Channel.Drs c = 0
held_on Channel.BiSnp c = 0
held_on Channel.CreditUp c = 0
held_on Channel.CreditDown c = 0

-- how many messages of a channel from a host are buffered (own rule)
abbrev pub buffered_on : ℕ → Channel → DeviceRecord → ℕ
buffered_on h Channel.Req k = length (requests_at h k.requests)
buffered_on h Channel.Rwd k = length (writes_at h k.writes)
buffered_on h Channel.BiRsp k = 0
buffered_on h Channel.Ndr k = 0
buffered_on h Channel.Drs k = 0
buffered_on h Channel.BiSnp k = 0
buffered_on h Channel.CreditUp k = 0
buffered_on h Channel.CreditDown k = 0

-- how many Credits for a channel are owed to a host: those held that aren't buffered (own rule)
abbrev pub owed_on : ℕ → Channel → DeviceRecord → ℕ
owed_on h c k = held_on c (credits_at h k.credits) - buffered_on h c k
