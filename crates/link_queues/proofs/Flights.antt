-- What the queues hold where they hold the messages in flight of a trace.
use Rattle.std.proofs.Common.{◌≡◌, ℕ, ◌+◌, ◌*◌, ◌/◌, ◌%◌, ◌<◌, Bool, List, [], length, map, Option, Some, refl, ap, sym, ◌∙◌, subst, arith, lit<}
use Rattle.std.specs.Prelude.{flat_map, option_map, slice_get, slice_index_or, sum_by}
use Rattle.cxl_message.specs.declared.channels.Channel.{Channel}
use Rattle.cxl_message.specs.declared.events.Event.{Event}
use Rattle.cxl_message.specs.declared.messages.Message.{Message}
use Rattle.cxl_message.specs.Lists.{below}
use Rattle.cxl_message.specs.Messages.{channel_of}
use Rattle.cxl_message.specs.Setup.{Configuration}
use Rattle.coherence_model.specs.Flight.{in_flight, is_takeable}
use Rattle.coherence_model.specs.Next.{channels}
use Rattle.coherence_model.specs.Weight.{channel_weight, flight_weight, message_weight}
use Rattle.link_queues.specs.Links.{HoldsFlight, LinkRecord, WhereHolds, channel_at, channel_number, links_after, messages_in, queue_after, queue_of, queue_place, takeable_of, takeable_on, waiting_on, waiting_weight, waiting_weight_of}
use Rattle.link_queues.specs.Queues.{takeable_in}
use Rattle.link_queues.proofs.Sums.{same_below}
use Rattle.link_queues.proofs.Tables.{get_table}

pub number_low : (c : Channel) → channel_number c < 8
number_low Channel.Req = lit< tt
number_low Channel.Rwd = lit< tt
number_low Channel.BiRsp = lit< tt
number_low Channel.Ndr = lit< tt
number_low Channel.Drs = lit< tt
number_low Channel.BiSnp = lit< tt
number_low Channel.CreditUp = lit< tt
number_low Channel.CreditDown = lit< tt

-- the channel with a number
abbrev pub numbered_channel : ℕ → Channel
numbered_channel n = slice_index_or channels n Channel.Req

channel_back : (c : Channel) → numbered_channel (channel_number c) ≡ c
channel_back Channel.Req = refl
channel_back Channel.Rwd = refl
channel_back Channel.BiRsp = refl
channel_back Channel.Ndr = refl
channel_back Channel.Drs = refl
channel_back Channel.BiSnp = refl
channel_back Channel.CreditUp = refl
channel_back Channel.CreditDown = refl

host_back : (h w : ℕ) → w < 8 → (8 * h + w) / 8 ≡ h
host_back h w low = omega arith

number_back : (h w : ℕ) → w < 8 → (8 * h + w) % 8 ≡ w
number_back h w low = omega arith

-- the queue at the place of a host and a channel is that host's
pub host_there : (h : ℕ) (c : Channel) → queue_place h c / 8 ≡ h
host_there h c = host_back h (channel_number c) (number_low c)

-- and it is that channel's
pub channel_there : (h : ℕ) (c : Channel) → channel_at (queue_place h c) ≡ c
channel_there h c = ap numbered_channel (number_back h (channel_number c) (number_low c)) ∙ channel_back c

low_place : (h w n : ℕ) → w < 8 → h < n → 8 * h + w < 8 * n
low_place h w n low less = omega arith

-- the place of a host that is there is one of the queues
pub place_low : (h n : ℕ) (c : Channel) → h < n → queue_place h c < 8 * n
place_low h n c less = low_place h (channel_number c) n (number_low c) less

-- the queue of a host's channel after a trace
pub queue_there : (setup : Configuration) (t : List Event) (h : ℕ) (c : Channel) → h < setup.hosts
    → slice_get (links_after setup t).queues (queue_place h c) ≡ Some (queue_of setup.credits c (in_flight h c t))
queue_there setup t h c low =
    get_table (queue_after setup t) (8 * setup.hosts) (queue_place h c) (place_low h setup.hosts c low)
    ∙ (λ i. Some (queue_of setup.credits (channel_there h c i) (in_flight (host_there h c i) (channel_there h c i) t)))

-- what the queues of a trace weigh
weight_of_all : (setup : Configuration) (t : List Event) → waiting_weight (links_after setup t) ≡ flight_weight setup t
weight_of_all setup t =
    same_below (waiting_weight_of (links_after setup t)) (λ h. sum_by (channel_weight setup t h) channels) setup.hosts
    (λ h low. λ i. sum_by (λ c. sum_by (message_weight setup.hosts) (messages_in (queue_there setup t h c low i))) channels)

-- what waits on a host's channel is in flight
pub waiting_is : (links : LinkRecord) (setup : Configuration) (t : List Event) (h : ℕ) (c : Channel) → HoldsFlight links setup t → h < links.hosts
    → waiting_on links h c ≡ in_flight h c t
waiting_is links setup t h c holds low =
    let there : h < setup.hosts = subst (λ (l : LinkRecord). h < l.hosts) holds low in
    ap (λ (l : LinkRecord). waiting_on l h c) holds ∙ ap messages_in (queue_there setup t h c there)

-- so may be taken what the model says
pub takeable_is : (links : LinkRecord) (h : ℕ) (m : Message) (result : Bool) → h < links.hosts → result ≡ is_takeable m (waiting_on links h (channel_of m))
    → WhereHolds links (λ setup t. result ≡ is_takeable m (in_flight h (channel_of m) t))
takeable_is links h m result low is setup t holds = is ∙ ap (is_takeable m) (waiting_is links setup t h (channel_of m) holds low)

all_is : (links : LinkRecord) (setup : Configuration) (t : List Event) (h : ℕ) → HoldsFlight links setup t → h < links.hosts → takeable_on links h ≡ takeable_of h t
all_is links setup t h holds low = λ i. flat_map (λ c. takeable_in (waiting_is links setup t h c holds low i)) channels

-- and so many
pub count_is : (links : LinkRecord) (h result : ℕ) → h < links.hosts → result ≡ length (takeable_on links h) → WhereHolds links (λ setup t. result ≡ length (takeable_of h t))
count_is links h result low is setup t holds = is ∙ ap length (all_is links setup t h holds low)

-- and the one of a number
pub pick_is : (links : LinkRecord) (h k : ℕ) (result : Option Message) → h < links.hosts → result ≡ slice_get (takeable_on links h) k
    → WhereHolds links (λ setup t. result ≡ slice_get (takeable_of h t) k)
pick_is links h k result low is setup t holds = is ∙ ap (λ l. slice_get l k) (all_is links setup t h holds low)

-- and weighs what is in flight
pub weight_is : (links : LinkRecord) (result : ℕ) → result ≡ waiting_weight links → WhereHolds links (λ setup t. result ≡ flight_weight setup t)
weight_is links result is setup t holds = is ∙ ap waiting_weight holds ∙ weight_of_all setup t
