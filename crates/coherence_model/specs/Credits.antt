-- Credits, as counts over the sender's or the receiver's own events (CXL 3.1, ch. 3: flow control by credits; own rule: a Credit is a message).
use Rattle.std.specs.Prelude.{Bool, List, None, Option, Some, [], false, filter, if◌then◌else◌, length, nat_lt, not, ℕ, ◌&&◌, ◌+◌, ◌-◌, ◌==◌, ◌||◌, ◌∷◌}
use Rattle.std.specs.Option.{option_len, option_or}
use Rattle.cxl_message.specs.declared.channels.Channel.{Channel}
use Rattle.cxl_message.specs.declared.events.Cause.{Cause}
use Rattle.cxl_message.specs.declared.events.Event.{Event}
use Rattle.cxl_message.specs.declared.events.Out.{Out}
use Rattle.cxl_message.specs.declared.events.Sends.{Sends}
use Rattle.cxl_message.specs.declared.messages.Message.{Message}
use Rattle.cxl_message.specs.Channels.{has_credits}
use Rattle.cxl_message.specs.Codes.{channel_eq}
use Rattle.cxl_message.specs.Events.{outs}
use Rattle.cxl_message.specs.Messages.{channel_of, message_eq}
use Rattle.cxl_message.specs.Setup.{Configuration}
use Rattle.coherence_model.specs.Flight.{sends_on, takes_on}

-- how many messages were sent on channel c of host h (own rule)
abbrev pub sent_count : ℕ → Channel → List Event → ℕ
sent_count h c [] = 0
sent_count h c (e ∷ past) = length (sends_on h c e) + sent_count h c past

-- how many messages were taken from channel c of host h (own rule)
abbrev pub taken_count : ℕ → Channel → List Event → ℕ
taken_count h c [] = 0
taken_count h c (e ∷ past) = option_len (takes_on h c e.cause) + taken_count h c past

-- whether a sent message is a Credit for channel c of host h (own rule)
abbrev pub is_credit_for : ℕ → Channel → Out → Bool
is_credit_for h c o = (o.host == h) && message_eq o.message (Message.Credit c)

-- how many Credits for channel c of host h were sent (own rule)
abbrev pub returned_count : ℕ → Channel → List Event → ℕ
returned_count h c [] = 0
returned_count h c (e ∷ past) = length (filter (is_credit_for h c) (outs e.sends)) + returned_count h c past

-- whether a cause takes a Credit for channel c of host h (own rule)
abbrev pub takes_credit : ℕ → Channel → Cause → Bool
takes_credit h c (Cause.Op _ _ _) = false
takes_credit h c (Cause.Take host m) = (host == h) && message_eq m (Message.Credit c)
takes_credit h c (Cause.Act _) = false

-- how many Credits for channel c of host h were taken (own rule)
abbrev pub earned_count : ℕ → Channel → List Event → ℕ
earned_count h c [] = 0
earned_count h c (e ∷ past) = (if takes_credit h c e.cause then 1 else 0) + earned_count h c past

-- `Left`: the setup's credits and the Credits taken, less the messages sent, by the sender's own events (own rule)
abbrev pub credits_left : Configuration → ℕ → Channel → List Event → ℕ
credits_left setup h c mine = (setup.credits + earned_count h c mine) - sent_count h c mine

-- the messages of a channel that its receiver took and gave no Credit back for: those buffered and those counted in `Owed` (own rule)
abbrev pub held_count : ℕ → Channel → List Event → ℕ
held_count h c mine = taken_count h c mine - returned_count h c mine

-- `Owed`: the used messages of a channel, those taken but the buffered ones, less the Credits for it that were sent (own rule)
abbrev pub owed_count : ℕ → Channel → ℕ → List Event → ℕ
owed_count h c buffered mine = (taken_count h c mine - buffered) - returned_count h c mine

-- whether there is room for a message: those of its channel that are buffered or counted in `Owed` are fewer than the credits (own rule)
abbrev pub has_room : Configuration → ℕ → Message → List Event → Bool
has_room setup h m mine = not (has_credits (channel_of m)) || nat_lt (held_count h (channel_of m) mine) setup.credits

-- whether the sender of a channel lacks a credit, so that it may take one (own rule)
abbrev pub lacks_credit : Configuration → ℕ → Channel → List Event → Bool
lacks_credit setup h c mine = nat_lt (credits_left setup h c mine) setup.credits

-- the channel of a sent message, where fewer than n of its credits are left (own rule)
abbrev pub channel_short_of : Configuration → ℕ → Out → List Event → Option Channel
channel_short_of setup n o mine =
    if has_credits (channel_of o.message) && nat_lt (credits_left setup o.host (channel_of o.message) mine) n then Some (channel_of o.message) else None

-- how many credits the first of two messages needs on its channel: two where the other goes there too (own rule)
abbrev pub credits_needed : Out → Out → ℕ
credits_needed o p = if (o.host == p.host) && channel_eq (channel_of o.message) (channel_of p.message) then 2 else 1

-- the first channel, in the order of the messages, whose credits don't reach for what is sent (own rule)
abbrev pub lacking_channel : Configuration → Sends → List Event → Option Channel
lacking_channel setup Sends.Nothing mine = None
lacking_channel setup (Sends.One o) mine = channel_short_of setup 1 o mine
lacking_channel setup (Sends.Two o p) mine = option_or (channel_short_of setup (credits_needed o p) o mine) (channel_short_of setup 1 p mine)
