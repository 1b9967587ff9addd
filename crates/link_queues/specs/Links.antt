-- The queues of all hosts: eight for each, and what they are where they hold the messages in flight of a trace. All of it is an own rule.
use Rattle.std.specs.Prelude.{Bool, List, None, Option, Some, [], flat_map, false, length, map, option_map, slice_get, slice_index_or, slice_set, sum_by, true, ℕ, ◌%◌, ◌*◌, ◌+◌, ◌/◌, ◌<◌, ◌≡◌, ◌≤◌}
use Rattle.std.specs.Option.{option_map_or}
use Rattle.cxl_message.specs.declared.channels.Channel.{Channel}
use Rattle.cxl_message.specs.declared.events.Cause.{Cause}
use Rattle.cxl_message.specs.declared.events.Event.{Event}
use Rattle.cxl_message.specs.declared.events.Out.{Out}
use Rattle.cxl_message.specs.declared.events.Sends.{Sends}
use Rattle.cxl_message.specs.declared.messages.Message.{Message}
use Rattle.cxl_message.specs.Lists.{below}
use Rattle.cxl_message.specs.Messages.{channel_of}
use Rattle.cxl_message.specs.Setup.{Configuration}
use Rattle.coherence_model.specs.Flight.{in_flight}
use Rattle.coherence_model.specs.Next.{channels}
use Rattle.coherence_model.specs.Weight.{message_weight}
use Rattle.link_queues.specs.Queues.{QueueRecord, takeable_in, with_message, without_message}

-- the queues of so many hosts, eight for each
pub record LinkRecord : Type 0 where
  pub hosts : ℕ
  pub queues : List QueueRecord

-- how the queues are kept: eight for each of 1 to 16 hosts
pub record IsLinked (hosts queues : ℕ) : Type 0 where
  pub least : 1 ≤ hosts
  pub most : hosts ≤ 16
  pub eight : queues ≡ 8 * hosts

-- the number of a channel among the eight of its host, in the order of the takes
abbrev pub channel_number : Channel → ℕ
channel_number Channel.Req = 0
channel_number Channel.Rwd = 1
channel_number Channel.BiRsp = 2
channel_number Channel.Ndr = 3
channel_number Channel.Drs = 4
channel_number Channel.BiSnp = 5
channel_number Channel.CreditUp = 6
channel_number Channel.CreditDown = 7

-- the place of channel c of host h among the queues
abbrev pub queue_place : ℕ → Channel → ℕ
queue_place h c = 8 * h + channel_number c

-- the channel of a place among the queues
abbrev pub channel_at : ℕ → Channel
channel_at k = slice_index_or channels (k % 8) Channel.Req

-- whether messages of a channel have payloads: RwD and DRS
abbrev pub carries_payloads : Channel → Bool
carries_payloads Channel.Req = false
carries_payloads Channel.Rwd = true
carries_payloads Channel.BiRsp = false
carries_payloads Channel.Ndr = false
carries_payloads Channel.Drs = true
carries_payloads Channel.BiSnp = false
carries_payloads Channel.CreditUp = false
carries_payloads Channel.CreditDown = false

-- for how many messages of a channel there is room, by the credits: the Credits of three channels go on one
abbrev pub room_of : ℕ → Channel → ℕ
room_of credits Channel.Req = credits
room_of credits Channel.Rwd = credits
room_of credits Channel.BiRsp = credits
room_of credits Channel.Ndr = credits
room_of credits Channel.Drs = credits
room_of credits Channel.BiSnp = credits
room_of credits Channel.CreditUp = 3 * credits
room_of credits Channel.CreditDown = 3 * credits

-- the queue of a channel with these messages
abbrev pub queue_of : ℕ → Channel → List Message → QueueRecord
queue_of credits c ms = record { messages = ms; room = room_of credits c; carries = carries_payloads c }

-- the queue at a place after a trace
abbrev pub queue_after : Configuration → List Event → ℕ → QueueRecord
queue_after setup t k = queue_of setup.credits (channel_at k) (in_flight (k / 8) (channel_at k) t)

-- the queues after a trace
abbrev pub links_after : Configuration → List Event → LinkRecord
links_after setup t = record { hosts = setup.hosts; queues = map (queue_after setup t) (below (8 * setup.hosts)) }

-- the queues hold the messages in flight after a trace, each channel's in the order sent
abbrev pub HoldsFlight : LinkRecord → Configuration → List Event → Type 0
HoldsFlight links setup t = links ≡ links_after setup t

-- a fact holds for each setup and trace whose messages in flight the queues hold
abbrev pub WhereHolds : LinkRecord → (Configuration → List Event → Type 0) → Type 0
WhereHolds links Says = (setup : Configuration) (t : List Event) → HoldsFlight links setup t → Says setup t

-- the messages of a queue that may be there
abbrev pub messages_in : Option QueueRecord → List Message
messages_in o = option_map_or (λ q. q.messages) o []

-- the messages that wait on channel c of host h
abbrev pub waiting_on : LinkRecord → ℕ → Channel → List Message
waiting_on links h c = messages_in (slice_get links.queues (queue_place h c))

-- those of the channels of host h that may be taken, channel by channel, each channel's in the order sent
abbrev pub takeable_on : LinkRecord → ℕ → List Message
takeable_on links h = flat_map (λ c. takeable_in (waiting_on links h c)) channels

-- the messages of host h's channels that may be taken after a trace, channel by channel, each channel's in the order sent
abbrev pub takeable_of : ℕ → List Event → List Message
takeable_of h t = flat_map (λ c. takeable_in (in_flight h c t)) channels

-- the list with one place set, if there is a value to set
abbrev pub set_if : ℕ → Option QueueRecord → List QueueRecord → List QueueRecord
set_if k None queues = queues
set_if k (Some q) queues = slice_set queues k q

-- the queues with the one of a host and a channel changed
abbrev pub changed_on : ℕ → Channel → (QueueRecord → QueueRecord) → LinkRecord → LinkRecord
changed_on h c change links =
    record links { queues = set_if (queue_place h c) (option_map change (slice_get links.queues (queue_place h c))) links.queues }

-- the queues after a message was sent to or from host h
abbrev pub with_sent : ℕ → Message → LinkRecord → LinkRecord
with_sent h m links = changed_on h (channel_of m) (with_message m) links

-- the queues after a message was taken from host h's channels
abbrev pub without_taken : ℕ → Message → LinkRecord → LinkRecord
without_taken h m links = changed_on h (channel_of m) (without_message m) links

-- the queues after a cause: a taken message is gone
abbrev pub after_cause : Cause → LinkRecord → LinkRecord
after_cause (Cause.Op _ _ _) links = links
after_cause (Cause.Take h m) links = without_taken h m links
after_cause (Cause.Act _) links = links

-- the queues after messages were sent, in order
abbrev pub after_sends : Sends → LinkRecord → LinkRecord
after_sends Sends.Nothing links = links
after_sends (Sends.One o) links = with_sent o.host o.message links
after_sends (Sends.Two o p) links = with_sent p.host p.message (with_sent o.host o.message links)

-- there is a queue with room for a message of host h, which keeps its payload if it has one
pub record HasRoom (links : LinkRecord) (h : ℕ) (m : Message) : Type 0 where
  pub host : h < links.hosts
  pub queue : QueueRecord
  pub there : slice_get links.queues (queue_place h (channel_of m)) ≡ Some queue
  pub carried : queue.carries ≡ carries_payloads (channel_of m)
  pub room : length queue.messages < queue.room

-- there is room for messages sent in order
abbrev pub HasRoomFor : LinkRecord → Sends → Type 0
HasRoomFor links Sends.Nothing = Unit {0}
HasRoomFor links (Sends.One o) = HasRoom links o.host o.message
HasRoomFor links (Sends.Two o p) = HasRoom links o.host o.message × HasRoom (with_sent o.host o.message links) p.host p.message

-- the host of a take is there
abbrev pub TakesFromHost : LinkRecord → Cause → Type 0
TakesFromHost links (Cause.Op _ _ _) = Unit {0}
TakesFromHost links (Cause.Take h _) = h < links.hosts
TakesFromHost links (Cause.Act _) = Unit {0}

-- what the messages that wait on host h's channels add to the weight
abbrev pub waiting_weight_of : LinkRecord → ℕ → ℕ
waiting_weight_of links h = sum_by (λ c. sum_by (message_weight links.hosts) (waiting_on links h c)) channels

-- what all of them add
abbrev pub waiting_weight : LinkRecord → ℕ
waiting_weight links = sum_by (waiting_weight_of links) (below links.hosts)
