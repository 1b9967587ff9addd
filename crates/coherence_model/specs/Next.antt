-- The next steps that aren't operations, in their order. Every order here is an own rule.
use Rattle.std.specs.Prelude.{List, [], filter, flat_map, if◌then◌else◌, is_some, option_map, option_to_list, unwrap_or, ℕ, ◌++◌, ◌∷◌}
use Rattle.cxl_message.specs.declared.channels.Channel.{Channel}
use Rattle.cxl_message.specs.declared.events.Act.{Act}
use Rattle.cxl_message.specs.declared.events.Cause.{Cause}
use Rattle.cxl_message.specs.declared.events.Event.{Event}
use Rattle.cxl_message.specs.declared.identifiers.Bytes64.{Bytes64}
use Rattle.cxl_message.specs.declared.identifiers.Line.{Line}
use Rattle.cxl_message.specs.declared.identifiers.Tag.{Tag}
use Rattle.cxl_message.specs.declared.messages.Message.{Message}
use Rattle.cxl_message.specs.Channels.{goes_to_device}
use Rattle.cxl_message.specs.Lists.{below}
use Rattle.cxl_message.specs.Messages.{tag_of}
use Rattle.cxl_message.specs.Setup.{Configuration}
use Rattle.coherence_model.specs.Buffers.{buffered_requests, buffered_writes}
use Rattle.coherence_model.specs.DirectoryChanges.{directory}
use Rattle.coherence_model.specs.Emission.{Emission}
use Rattle.coherence_model.specs.Flight.{in_flight, is_takeable}
use Rattle.coherence_model.specs.Rows.{emission}
use Rattle.coherence_model.specs.Snoops.{Snoop, buffered_snoops, is_whole_block}
use Rattle.coherence_model.specs.Traces.{device, events_of}

-- the event of a cause that emits w (own rule)
abbrev pub event_with : ℕ → Cause → Emission → Event
event_with g cause w = record { agent = g; cause = cause; sends = w.sends; commit = w.commit }

-- the event of a cause at an agent, if its row holds: a list of one event or none (own rule)
abbrev pub step_of : Configuration → List (Line × Bytes64) → List Event → ℕ → Cause → List Event
step_of setup opening t g cause = option_to_list (option_map (event_with g cause) (emission setup opening g cause (events_of g t)))

-- the event of an act at an agent, if its row holds (own rule)
abbrev pub act_step : Configuration → List (Line × Bytes64) → List Event → ℕ → Act → List Event
act_step setup opening t g act = step_of setup opening t g (Cause.Act act)

-- the first of two lists that isn't empty
abbrev pub or_else : List Event → List Event → List Event
or_else [] ys = ys
or_else (x ∷ xs) ys = x ∷ xs

-- the eight channels, in the order of the takes (own rule)
abbrev pub channels : List Channel
channels = Channel.Req ∷ Channel.Rwd ∷ Channel.BiRsp ∷ Channel.Ndr ∷ Channel.Drs ∷ Channel.BiSnp ∷ Channel.CreditUp ∷ Channel.CreditDown ∷ []

-- the channels whose credits a host gives back, in the order of the returns (own rule)
abbrev pub host_return_channels : List Channel
host_return_channels = Channel.Ndr ∷ Channel.Drs ∷ Channel.BiSnp ∷ []

-- the channels whose credits the device gives back, in the order of the returns (own rule)
abbrev pub device_return_channels : List Channel
device_return_channels = Channel.Req ∷ Channel.Rwd ∷ Channel.BiRsp ∷ []

-- the agent that takes from channel c of host h (own rule)
abbrev pub receiver : ℕ → Channel → ℕ
receiver h c = if goes_to_device c then device else h

-- the agent that sends on channel c of host h (own rule)
abbrev pub sender : ℕ → Channel → ℕ
sender h c = if goes_to_device c then h else device

-- the takes from channel c of host h, in the order sent (own rule)
abbrev pub next_takes : Configuration → List (Line × Bytes64) → List Event → ℕ → Channel → List Event
next_takes setup opening t h c =
    let waiting = in_flight h c t in flat_map (λ m. step_of setup opening t (receiver h c) (Cause.Take h m)) (filter (λ m. is_takeable m waiting) waiting)

-- the one of Conflict, WriteBack and Answer that is allowed for a snooped line (own rule)
abbrev pub line_acts : Configuration → List (Line × Bytes64) → List Event → ℕ → ℕ → List Event
line_acts setup opening t h a =
    let line : Line = record { 0 = a } in
    or_else (act_step setup opening t h (Act.Conflict line)) (or_else (act_step setup opening t h (Act.WriteBack line)) (act_step setup opening t h (Act.Answer line)))

-- AnswerBlock for a buffered snoop, if none of its lines was answered (own rule)
abbrev pub block_acts : Configuration → List (Line × Bytes64) → List Event → ℕ → Snoop → List Event
block_acts setup opening t h s = if is_whole_block s.first s then act_step setup opening t h (Act.AnswerBlock (record { 0 = s.first })) else []

-- the acts for a buffered snoop: AnswerBlock, or those for its lines, ascending (own rule)
abbrev pub snoop_acts : Configuration → List (Line × Bytes64) → List Event → ℕ → Snoop → List Event
snoop_acts setup opening t h s = or_else (block_acts setup opening t h s) (flat_map (line_acts setup opening t h) s.unanswered)

-- the acts of a host: for each buffered snoop in the order taken, then the returns (own rule)
abbrev pub next_host_acts : Configuration → List (Line × Bytes64) → List Event → ℕ → List Event
next_host_acts setup opening t h =
    flat_map (snoop_acts setup opening t h) (buffered_snoops (events_of h t)) ++ flat_map (λ c. act_step setup opening t h (Act.HostReturn c)) host_return_channels

-- the tag of a message, or 0 where it has none (own rule)
abbrev pub tag_or_zero : Message → ℕ
tag_or_zero m = unwrap_or (tag_of m) 0

-- Serve for a buffered RwD message (own rule)
abbrev pub write_acts : Configuration → List (Line × Bytes64) → List Event → ℕ → Message → List Event
write_acts setup opening t h m = act_step setup opening t device (Act.Serve h (record { 0 = tag_or_zero m }))

-- the one of Clean, Start and Evict that is allowed for a buffered Req message (own rule)
abbrev pub request_acts : Configuration → List (Line × Bytes64) → List Event → ℕ → Message → List Event
request_acts setup opening t h m =
    let tag : Tag = record { 0 = tag_or_zero m } in
    or_else (act_step setup opening t device (Act.Clean h tag)) (or_else (act_step setup opening t device (Act.Start h tag)) (act_step setup opening t device (Act.Evict h tag)))

-- the acts for the task with first line a: Snoop by host, then Finish (own rule)
abbrev pub task_acts : Configuration → List (Line × Bytes64) → List Event → ℕ → List Event
task_acts setup opening t a =
    flat_map (λ h. act_step setup opening t device (Act.Snoop h (record { 0 = a }))) (below setup.hosts) ++ act_step setup opening t device (Act.Finish (record { 0 = a }))

-- the first lines of the tasks, ascending (own rule)
abbrev pub task_lines : Configuration → List Event → List ℕ
task_lines setup mine = let D = directory setup mine in filter (λ a. is_some (D.task a)) (below setup.lines)

-- the returns of the device for host h (own rule)
abbrev pub device_return_acts : Configuration → List (Line × Bytes64) → List Event → ℕ → List Event
device_return_acts setup opening t h = flat_map (λ c. act_step setup opening t device (Act.DeviceReturn h c)) device_return_channels

-- the acts of the device: Serve; Clean, Start or Evict; Snoop and Finish; the returns (own rule)
abbrev pub next_device_acts : Configuration → List (Line × Bytes64) → List Event → List Event
next_device_acts setup opening t =
    let mine = events_of device t in
    flat_map (λ h. flat_map (write_acts setup opening t h) (buffered_writes h mine)) (below setup.hosts)
    ++ flat_map (λ h. flat_map (request_acts setup opening t h) (buffered_requests h mine)) (below setup.hosts)
    ++ flat_map (task_acts setup opening t) (task_lines setup mine) ++ flat_map (device_return_acts setup opening t) (below setup.hosts)

-- `Next`: the events that are allowed after a trace and aren't operations: takes, acts of the hosts, acts of the device (own rule)
abbrev pub next_steps : Configuration → List (Line × Bytes64) → List Event → List Event
next_steps setup opening t =
    flat_map (λ h. flat_map (next_takes setup opening t h) channels) (below setup.hosts)
    ++ flat_map (next_host_acts setup opening t) (below setup.hosts)
    ++ next_device_acts setup opening t
