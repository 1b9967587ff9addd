-- After every run the credits of each channel add up.
use Rattle.std.specs.Prelude.{Bool, List, [], count_by, length, ℕ, ◌+◌, ◌==◌, ◌∷◌}
use Rattle.std.specs.List.{list_all}
use Rattle.cxl_message.specs.declared.channels.Channel.{Channel}
use Rattle.cxl_message.specs.declared.events.Event.{Event}
use Rattle.cxl_message.specs.declared.messages.Message.{Message}
use Rattle.cxl_message.specs.Channels.{credit_channel}
use Rattle.cxl_message.specs.Lists.{below}
use Rattle.cxl_message.specs.Messages.{message_eq}
use Rattle.cxl_message.specs.Setup.{Configuration}
use Rattle.coherence_model.specs.Credits.{credits_left, held_count}
use Rattle.coherence_model.specs.Flight.{in_flight}
use Rattle.coherence_model.specs.Next.{receiver, sender}
use Rattle.coherence_model.specs.Traces.{events_of}

-- the six channels that have credits (CXL 3.1, ch. 3: flow control by credits)
abbrev pub credited_channels : List Channel
credited_channels = Channel.Req ∷ Channel.Rwd ∷ Channel.BiRsp ∷ Channel.Ndr ∷ Channel.Drs ∷ Channel.BiSnp ∷ []

-- how many Credits for channel c of host h are in flight (own rule)
abbrev pub credits_in_flight : ℕ → Channel → List Event → ℕ
credits_in_flight h c t = count_by (message_eq (Message.Credit c)) (in_flight h (credit_channel c) t)

-- where the credits of channel c of host h are: left, with a message in flight, held for a buffered or used message, or in flight themselves (own rule)
abbrev pub credits_counted : Configuration → List Event → ℕ → Channel → ℕ
credits_counted setup t h c =
    credits_left setup h c (events_of (sender h c) t) + length (in_flight h c t)
    + held_count h c (events_of (receiver h c) t) + credits_in_flight h c t

-- the credits of every channel of every host add up to the setup's (own rule)
abbrev pub credits_add_up : Configuration → List Event → Bool
credits_add_up setup t = list_all (λ h. list_all (λ c. credits_counted setup t h c == setup.credits) credited_channels) (below setup.hosts)
