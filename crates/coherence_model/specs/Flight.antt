-- The messages in flight: from the event that sends one to the event that takes it. Lists of messages are oldest first.
use Rattle.std.specs.Prelude.{Bool, List, None, Option, Some, [], false, filter, find, if◌then◌else◌, map, not, ℕ, ◌&&◌, ◌++◌, ◌==◌, ◌||◌, ◌∷◌}
use Rattle.std.specs.List.{list_any}
use Rattle.std.specs.Option.{option_map_or}
use Rattle.cxl_message.specs.declared.channels.Channel.{Channel}
use Rattle.cxl_message.specs.declared.events.Cause.{Cause}
use Rattle.cxl_message.specs.declared.events.Event.{Event}
use Rattle.cxl_message.specs.declared.events.Out.{Out}
use Rattle.cxl_message.specs.declared.messages.Message.{Message}
use Rattle.cxl_message.specs.Codes.{channel_eq}
use Rattle.cxl_message.specs.Events.{outs}
use Rattle.cxl_message.specs.Messages.{channel_of, has_tag, is_conflict_ack, message_eq, tag_of}
use Rattle.coherence_model.specs.Words.{with_last}

-- whether a sent message goes on channel c of host h (own rule)
abbrev pub is_on : ℕ → Channel → Out → Bool
is_on h c o = (o.host == h) && channel_eq (channel_of o.message) c

-- the messages that an event sends on channel c of host h, in order (own rule)
abbrev pub sends_on : ℕ → Channel → Event → List Message
sends_on h c e = map (λ o. o.message) (filter (is_on h c) (outs e.sends))

-- the message that a cause takes from channel c of host h, if it takes one there (own rule)
abbrev pub takes_on : ℕ → Channel → Cause → Option Message
takes_on h c (Cause.Op _ _ _) = None
takes_on h c (Cause.Take host m) = if (host == h) && channel_eq (channel_of m) c then Some m else None
takes_on h c (Cause.Act _) = None

-- all messages that were sent on channel c of host h (own rule)
abbrev pub sent_on : ℕ → Channel → List Event → List Message
sent_on h c [] = []
sent_on h c (e ∷ past) = sent_on h c past ++ sends_on h c e

-- all messages that were taken from channel c of host h (own rule)
abbrev pub taken_on : ℕ → Channel → List Event → List Message
taken_on h c [] = []
taken_on h c (e ∷ past) = with_last (takes_on h c e.cause) (taken_on h c past)

-- the messages without the first one that is equal to m
abbrev pub without_first : Message → List Message → List Message
without_first m [] = []
without_first m (n ∷ ns) = if message_eq m n then ns else n ∷ without_first m ns

-- the messages without the one that was taken, if one was
abbrev pub without_taken : Option Message → List Message → List Message
without_taken None ns = ns
without_taken (Some m) ns = without_first m ns

-- the messages in flight on channel c of host h, in the order sent: a take of m takes the first m that is there (own rule)
abbrev pub in_flight : ℕ → Channel → List Event → List Message
in_flight h c [] = []
in_flight h c (e ∷ past) = without_taken (takes_on h c e.cause) (in_flight h c past) ++ sends_on h c e

-- whether the second message has the first one's Tag (own rule)
abbrev pub shares_tag : Message → Message → Bool
shares_tag m n = option_map_or (λ tag. has_tag tag n) (tag_of m) false

-- whether a message is the earliest of its Tag among those in flight (own rule)
abbrev pub is_first_of_tag : Message → List Message → Bool
is_first_of_tag m waiting = option_map_or (message_eq m) (find (shares_tag m) waiting) false

-- whether a message may be taken: it is in flight, and a BI-ConflictAck passes no earlier message of its Tag (CXL 3.1, ch. 3; own rule: kept by equal Tag)
abbrev pub is_takeable : Message → List Message → Bool
is_takeable m waiting = list_any (message_eq m) waiting && (not (is_conflict_ack m) || is_first_of_tag m waiting)
