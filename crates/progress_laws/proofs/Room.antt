-- There is room for what is in flight, and a Credit in flight is one that is missing: by the credits of the channel.
use Rattle.std.proofs.Common.{◌≡◌, ℕ, ◌≤◌, Bool, true, false, List, [], ◌∷◌, length, refl, sym, ◌∙◌, ap, subst, arith}
use Rattle.std.specs.Prelude.{nat_lt, not, ◌||◌}
use Rattle.std.specs.List.{list_any}
use Rattle.std.proofs.lemmas.Bool.{false≢true, lt-ltb}
use Rattle.cxl_message.specs.declared.channels.Channel.{Channel}
use Rattle.cxl_message.specs.declared.events.Event.{Event}
use Rattle.cxl_message.specs.declared.identifiers.Bytes64.{Bytes64}
use Rattle.cxl_message.specs.declared.identifiers.Line.{Line}
use Rattle.cxl_message.specs.declared.messages.Message.{Message}
use Rattle.cxl_message.specs.Channels.{credit_channel, has_credits}
use Rattle.cxl_message.specs.Messages.{channel_of, message_eq}
use Rattle.cxl_message.specs.Setup.{Configuration}
use Rattle.coherence_model.specs.CreditFacts.{credits_in_flight}
use Rattle.coherence_model.specs.Credits.{credits_left, has_room, held_count, lacks_credit}
use Rattle.coherence_model.specs.Flight.{in_flight}
use Rattle.coherence_model.specs.Next.{receiver, sender}
use Rattle.coherence_model.specs.Runs.{IsRun}
use Rattle.coherence_model.specs.Traces.{events_of}
use Rattle.credit_laws.proofs.Laws.{credits_of_channels_add_up}
use Rattle.request_laws.proofs.Counts.{any_counts}

some_length : (m : Message) (ns : List Message) → list_any (message_eq m) ns ≡ true → 1 ≤ length ns
some_length m [] some = absurd (false≢true some)
some_length m (n ∷ ns) some = omega arith

room_if : (setup : Configuration) (opening : List (Line × Bytes64)) (t : List Event) → IsRun setup opening t → (h : ℕ) (c : Channel) (m : Message) (credited : Bool) → has_credits c ≡ credited
    → list_any (message_eq m) (in_flight h c t) ≡ true → (not credited || nat_lt (held_count h c (events_of (receiver h c) t)) setup.credits) ≡ true
room_if setup opening t run h c m true is there =
    let sum = credits_of_channels_add_up setup opening t run h c is in
    let some = some_length m (in_flight h c t) there in
    lt-ltb (held_count h c (events_of (receiver h c) t)) setup.credits (omega arith)
room_if setup opening t run h c m false is there = refl

-- there is room for a message in flight
pub has_room_for :
    (setup : Configuration) (opening : List (Line × Bytes64)) (t : List Event) → IsRun setup opening t → (h : ℕ) (c : Channel) (m : Message) → channel_of m ≡ c
    → list_any (message_eq m) (in_flight h c t) ≡ true → has_room setup h m (events_of (receiver h c) t) ≡ true
has_room_for setup opening t run h c m of there =
    subst (λ d. (not (has_credits d) || nat_lt (held_count h d (events_of (receiver h c) t)) setup.credits) ≡ true) (sym of) (room_if setup opening t run h c m (has_credits c) refl there)

-- a Credit in flight is missing at the sender of its channel
pub credit_is_missing :
    (setup : Configuration) (opening : List (Line × Bytes64)) (t : List Event) → IsRun setup opening t → (h : ℕ) (c : Channel) → has_credits c ≡ true
    → list_any (message_eq (Message.Credit c)) (in_flight h (credit_channel c) t) ≡ true → lacks_credit setup h c (events_of (sender h c) t) ≡ true
credit_is_missing setup opening t run h c credited there =
    let sum = credits_of_channels_add_up setup opening t run h c credited in
    let some : 1 ≤ credits_in_flight h c t = any_counts (message_eq (Message.Credit c)) (in_flight h (credit_channel c) t) there in
    lt-ltb (credits_left setup h c (events_of (sender h c) t)) setup.credits (omega arith)

-- the Credits of a channel go to its sender
pub credits_go_back : (h : ℕ) (c : Channel) → has_credits c ≡ true → receiver h (credit_channel c) ≡ sender h c
credits_go_back h Channel.Req is = refl
credits_go_back h Channel.Rwd is = refl
credits_go_back h Channel.BiRsp is = refl
credits_go_back h Channel.Ndr is = refl
credits_go_back h Channel.Drs is = refl
credits_go_back h Channel.BiSnp is = refl
credits_go_back h Channel.CreditUp is = absurd (false≢true is)
credits_go_back h Channel.CreditDown is = absurd (false≢true is)

-- a Credit goes on no channel that has credits itself
credits_uncredited : (c : Channel) → has_credits (credit_channel c) ≡ false
credits_uncredited Channel.Req = refl
credits_uncredited Channel.Rwd = refl
credits_uncredited Channel.BiRsp = refl
credits_uncredited Channel.Ndr = refl
credits_uncredited Channel.Drs = refl
credits_uncredited Channel.BiSnp = refl
credits_uncredited Channel.CreditUp = refl
credits_uncredited Channel.CreditDown = refl

pub no_credit_on : (c d : Channel) → has_credits d ≡ true → credit_channel c ≡ d → ⊥
no_credit_on c d credited e = false≢true (sym (credits_uncredited c) ∙ ap has_credits e ∙ credited)
