-- The weight of a trace: what is still to be done, which each event that isn't an operation lowers. Every number is an own rule.
use Rattle.std.specs.Prelude.{Bool, List, count_by, false, if◌then◌else◌, length, nat_le, nat_lt, not, sum_by, true, ℕ, ◌&&◌, ◌*◌, ◌+◌, ◌-◌, ◌∷◌}
use Rattle.std.specs.Option.{option_map_or}
use Rattle.cxl_message.specs.declared.channels.Channel.{Channel}
use Rattle.cxl_message.specs.declared.events.Cause.{Cause}
use Rattle.cxl_message.specs.declared.events.Event.{Event}
use Rattle.cxl_message.specs.declared.messages.Message.{Message}
use Rattle.cxl_message.specs.declared.opcodes.ReqOp.{ReqOp}
use Rattle.cxl_message.specs.Codes.{span_len}
use Rattle.cxl_message.specs.Lists.{below}
use Rattle.cxl_message.specs.Setup.{Configuration}
use Rattle.coherence_model.specs.Buffers.{buffered_requests, buffered_writes, device_owed}
use Rattle.coherence_model.specs.DeviceActs.{request_in}
use Rattle.coherence_model.specs.Directory.{Directory, is_to_ask}
use Rattle.coherence_model.specs.DirectoryChanges.{directory}
use Rattle.coherence_model.specs.Flight.{in_flight}
use Rattle.coherence_model.specs.Next.{channels, device_return_channels, host_return_channels}
use Rattle.coherence_model.specs.Room.{Room, request_room}
use Rattle.coherence_model.specs.SentSnoops.{is_asked}
use Rattle.coherence_model.specs.Snoops.{Snoop, buffered_snoops, host_owed}
use Rattle.coherence_model.specs.Stages.{Stage, stage}
use Rattle.coherence_model.specs.Tasks.{Purpose, Task}
use Rattle.coherence_model.specs.Traces.{device, events_of}

-- what a Req message in flight adds (own rule)
abbrev pub request_flight_weight : ℕ → ReqOp → ℕ
request_flight_weight hosts ReqOp.MemRd = 108 * hosts - 11
request_flight_weight hosts ReqOp.MemInv = 108 * hosts - 11
request_flight_weight hosts ReqOp.MemClnEvct = 7

-- what a message in flight adds (own rule)
abbrev pub message_weight : ℕ → Message → ℕ
message_weight hosts (Message.Req op _ _ _ _) = request_flight_weight hosts op
message_weight hosts (Message.MemWr _ _ _ _ _) = 7
message_weight hosts (Message.BiConflict _) = 7
message_weight hosts (Message.BiRsp _ _ _) = 3
message_weight hosts (Message.Ndr _ _) = 3
message_weight hosts (Message.MemData _ _) = 3
message_weight hosts (Message.BiSnp _ _ _ span) = 3 + 20 * span_len span
message_weight hosts (Message.Credit _) = 1

-- what a buffered MemRd or MemInv adds: less where its eviction is in progress or it has a reservation (own rule)
abbrev pub room_weight : ℕ → Room → ℕ
room_weight hosts Room.NoEviction = 108 * hosts - 12
room_weight hosts Room.EvictionInProgress = 24 * hosts - 14
room_weight hosts Room.Reservation = 24 * hosts - 14

-- what a buffered Req message adds (own rule)
abbrev pub request_weight : ℕ → Room → ReqOp → ℕ
request_weight hosts room ReqOp.MemRd = room_weight hosts room
request_weight hosts room ReqOp.MemInv = room_weight hosts room
request_weight hosts room ReqOp.MemClnEvct = 6

-- what a snooped line adds (own rule)
abbrev pub stage_weight : Stage → ℕ
stage_weight Stage.New = 20
stage_weight (Stage.Asked _) = 12
stage_weight Stage.Late = 12
stage_weight Stage.Early = 4
stage_weight Stage.Writing = 4
stage_weight Stage.Written = 4

-- what a buffered snoop adds (own rule)
abbrev pub snoop_weight : Configuration → List Event → Snoop → ℕ
snoop_weight setup mine s = 2 + sum_by (λ a. stage_weight (stage setup a mine)) s.unanswered

-- how many hosts the task with first line a is to ask and hasn't asked (own rule)
abbrev pub unasked_count : Configuration → Directory → List Event → ℕ → Task → ℕ
unasked_count setup D mine a t = count_by (λ g. is_to_ask t.purpose D a t g && not (is_asked g a mine)) (below setup.hosts)

-- what a task over so many lines adds, with so many hosts still to be asked (own rule)
abbrev pub purpose_weight : Purpose → ℕ → ℕ → ℕ
purpose_weight Purpose.SharedRead lines unasked = 7 + 24 * unasked
purpose_weight Purpose.OwningRead lines unasked = 7 + 24 * unasked
purpose_weight Purpose.Invalidation lines unasked = 7 + 24 * unasked
purpose_weight Purpose.Eviction lines unasked = 1 + (4 + 20 * lines) * unasked

-- what the task with first line a adds, if there is one (own rule)
abbrev pub task_weight : Configuration → Directory → List Event → ℕ → ℕ
task_weight setup D mine a = option_map_or (λ t. purpose_weight t.purpose (span_len t.span) (unasked_count setup D mine a t)) (D.task a) 0

-- what a host's owed credits and buffered snoops add (own rule)
abbrev pub host_weight : Configuration → ℕ → List Event → ℕ
host_weight setup h mine = 2 * sum_by (λ c. host_owed h c mine) host_return_channels + sum_by (snoop_weight setup mine) (buffered_snoops mine)

-- what one buffered Req message of host h adds (own rule)
abbrev pub buffered_request_weight : Configuration → List Event → ℕ → Message → ℕ
buffered_request_weight setup mine h m = option_map_or (λ r. request_weight setup.hosts (request_room setup h r.tag.0 mine) r.op) (request_in m) 0

-- what the device's owed credits and buffered messages of host h add (own rule)
abbrev pub buffers_weight : Configuration → List Event → ℕ → ℕ
buffers_weight setup mine h =
    2 * sum_by (λ c. device_owed h c mine) device_return_channels + 6 * length (buffered_writes h mine)
    + sum_by (buffered_request_weight setup mine h) (buffered_requests h mine)

-- what the device's owed credits, buffered messages and tasks add (own rule)
abbrev pub device_weight : Configuration → List Event → ℕ
device_weight setup mine = sum_by (buffers_weight setup mine) (below setup.hosts) + sum_by (task_weight setup (directory setup mine) mine) (below setup.lines)

-- what the messages in flight on channel c of host h add (own rule)
abbrev pub channel_weight : Configuration → List Event → ℕ → Channel → ℕ
channel_weight setup t h c = sum_by (message_weight setup.hosts) (in_flight h c t)

-- what all messages in flight add (own rule)
abbrev pub flight_weight : Configuration → List Event → ℕ
flight_weight setup t = sum_by (λ h. sum_by (channel_weight setup t h) channels) (below setup.hosts)

-- `Weight`: the sum of all that (own rule)
abbrev pub weight : Configuration → List Event → ℕ
weight setup t = flight_weight setup t + sum_by (λ h. host_weight setup h (events_of h t)) (below setup.hosts) + device_weight setup (events_of device t)

-- whether a cause is an operation (own rule)
abbrev pub is_operation : Cause → Bool
is_operation (Cause.Op _ _ _) = true
is_operation (Cause.Take _ _) = false
is_operation (Cause.Act _) = false

-- whether an event lowers the weight, or is an operation and raises it by at most `108 * H - 4` (own rule)
abbrev pub weight_is_bounded : Configuration → List Event → Event → Bool
weight_is_bounded setup past e =
    if is_operation e.cause
    then nat_le (weight setup (e ∷ past)) (weight setup past + (108 * setup.hosts - 4))
    else nat_lt (weight setup (e ∷ past)) (weight setup past)
