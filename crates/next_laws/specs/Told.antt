-- The next steps by their agents and causes, as the queues of messages and the agents tell them. Every order here is an own rule.
use Rattle.std.specs.Prelude.{List, [], filter, flat_map, map, ℕ, ◌++◌, ◌∷◌}
use Rattle.cxl_message.specs.declared.events.Act.{Act}
use Rattle.cxl_message.specs.declared.events.Cause.{Cause}
use Rattle.cxl_message.specs.declared.events.Event.{Event}
use Rattle.cxl_message.specs.declared.identifiers.Bytes64.{Bytes64}
use Rattle.cxl_message.specs.declared.identifiers.Line.{Line}
use Rattle.cxl_message.specs.declared.messages.Message.{Message}
use Rattle.cxl_message.specs.Lists.{below}
use Rattle.cxl_message.specs.Messages.{channel_of}
use Rattle.cxl_message.specs.Setup.{Configuration}
use Rattle.coherence_model.specs.Flight.{in_flight, is_takeable}
use Rattle.coherence_model.specs.Next.{channels, next_device_acts, next_host_acts, receiver}
use Rattle.coherence_model.specs.Traces.{device, events_of}

-- an event by its agent and its cause (own rule)
abbrev pub told : Event → ℕ × Cause
told e = (e.agent, e.cause)

-- those of some messages in flight on a channel that may be taken (own rule)
abbrev pub takeable_among : List Message → List Message
takeable_among waiting = filter (λ m. is_takeable m waiting) waiting

-- the messages of host h's channels that may be taken, channel by channel, each channel's in the order sent (own rule)
abbrev pub takeable_messages : ℕ → List Event → List Message
takeable_messages h t = flat_map (λ c. takeable_among (in_flight h c t)) channels

-- the take of a message of host h, by its agent and its cause (own rule)
abbrev pub take_told : ℕ → Message → ℕ × Cause
take_told h m = (receiver h (channel_of m), Cause.Take h m)

-- the act of a cause, if it is one (own rule)
abbrev pub act_of_cause : Cause → List Act
act_of_cause (Cause.Op _ _ _) = []
act_of_cause (Cause.Take _ _) = []
act_of_cause (Cause.Act act) = act ∷ []

-- the acts of events, in their order (own rule)
abbrev pub acts_of : List Event → List Act
acts_of es = flat_map (λ (e : Event). act_of_cause e.cause) es

-- an act of an agent, by the agent and the cause (own rule)
abbrev pub act_told : ℕ → Act → ℕ × Cause
act_told g act = (g, Cause.Act act)

-- the takes that are told for host h (own rule)
abbrev pub takes_told : List Event → ℕ → List (ℕ × Cause)
takes_told t h = map (take_told h) (takeable_messages h t)

-- the acts that host h tells, by its own events (own rule)
abbrev pub host_acts_told : Configuration → List Event → ℕ → List (ℕ × Cause)
host_acts_told setup t h = map (act_told h) (acts_of (next_host_acts setup [] (events_of h t) h))

-- the acts that the device tells, by its own events (own rule)
abbrev pub device_acts_told : Configuration → List (Line × Bytes64) → List Event → List (ℕ × Cause)
device_acts_told setup opening t = map (act_told device) (acts_of (next_device_acts setup opening (events_of device t)))

-- the next steps as they are told: takes, acts of the hosts, acts of the device (own rule)
abbrev pub steps_told : Configuration → List (Line × Bytes64) → List Event → List (ℕ × Cause)
steps_told setup opening t = flat_map (takes_told t) (below setup.hosts) ++ flat_map (host_acts_told setup t) (below setup.hosts) ++ device_acts_told setup opening t
