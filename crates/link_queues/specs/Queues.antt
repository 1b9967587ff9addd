-- The queue of a channel: its messages in the order sent. All of it is an own rule.
use Rattle.std.specs.Prelude.{Bool, List, [], filter, if◌then◌else◌, length, remove, take, ℕ, ◌++◌, ◌∷◌, ◌≡◌, ◌≤◌}
use Rattle.cxl_message.specs.declared.identifiers.Bytes64.{Bytes64}
use Rattle.cxl_message.specs.declared.messages.Message.{Message}
use Rattle.cxl_message.specs.Opening.{zero_bytes}
use Rattle.coherence_model.specs.Flight.{is_takeable, without_first}
use Rattle.event_room.specs.declared.messages.MessageHead.{MessageHead}
use Rattle.event_room.specs.Heads.{with_payload}

-- a queue: its messages, oldest first, for how many there is room, and whether their payloads are kept
pub record QueueRecord : Type 0 where
  pub messages : List Message
  pub room : ℕ
  pub carries : Bool

-- the messages of heads with their payloads beside them; what has no payload there has one of zeros
abbrev pub joined : List MessageHead → List Bytes64 → List Message
joined [] payloads = []
joined (h ∷ heads) [] = with_payload h zero_bytes ∷ joined heads []
joined (h ∷ heads) (p ∷ payloads) = with_payload h p ∷ joined heads payloads

-- the queue with a message at its end
abbrev pub with_message : Message → QueueRecord → QueueRecord
with_message m q = record q { messages = q.messages ++ m ∷ [] }

-- the queue without the first message that is equal to m
abbrev pub without_message : Message → QueueRecord → QueueRecord
without_message m q = record q { messages = without_first m q.messages }

-- the queue without the message at a place
abbrev pub without_place : ℕ → QueueRecord → QueueRecord
without_place k q = record q { messages = remove q.messages k }

-- those of some messages in flight on a channel that may be taken, in the order sent
abbrev pub takeable_in : List Message → List Message
takeable_in waiting = filter (λ m. is_takeable m waiting) waiting

-- how the parts of a queue are kept: a payload for each head, or none at all, with room for as many as heads, which are at most 192
pub record IsKept (carries : Bool) (heads payloads room payload_room : ℕ) : Type 0 where
  pub payloads_are : payloads ≡ (if carries then heads else 0)
  pub room_is : (if carries then room else 0) ≤ payload_room
  pub most : room ≤ 192

-- how many of the first k of them may be taken
abbrev pub takeable_before : List Message → ℕ → ℕ
takeable_before waiting k = length (filter (λ m. is_takeable m waiting) (take k waiting))

-- so many hosts are within a setup's limits
pub record IsHostCount (hosts : ℕ) : Type 0 where
  pub least : 1 ≤ hosts
  pub most : hosts ≤ 16
