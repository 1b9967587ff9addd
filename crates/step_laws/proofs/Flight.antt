-- The messages in flight on a channel go on that channel.
use Rattle.std.proofs.Common.{◌≡◌, ℕ, Bool, true, false, List, [], ◌∷◌, Option, Some, None, cond, refl}
use Rattle.std.specs.Prelude.{filter, map}
use Rattle.std.proofs.lemmas.Bool.{and_parts}
use Rattle.cxl_message.specs.declared.channels.Channel.{Channel}
use Rattle.cxl_message.specs.declared.events.Event.{Event}
use Rattle.cxl_message.specs.declared.events.Out.{Out}
use Rattle.cxl_message.specs.declared.messages.Message.{Message}
use Rattle.cxl_message.specs.Events.{outs}
use Rattle.cxl_message.specs.Messages.{channel_of, message_eq}
use Rattle.coherence_model.specs.Flight.{in_flight, is_on, sends_on, takes_on, without_first, without_taken}
use Rattle.step_laws.proofs.Counts.{Each, each_append, each_holds}
use Rattle.cxl_message.proofs.SameNames.{channel_eq-same}

-- what is left of a list once one was taken away
pub without-step : (P : Message → Type 0) (b : Bool) (n : Message) (ns left : List Message) → P n → Each P ns → Each P left → Each P (cond b ns (n ∷ left))
without-step P true n ns left here all less = all
without-step P false n ns left here all less = (here, less)

pub each-without_first : (P : Message → Type 0) (m : Message) (ns : List Message) → Each P ns → Each P (without_first m ns)
each-without_first P m [] e = tt
each-without_first P m (n ∷ ns) e = without-step P (message_eq m n) n ns (without_first m ns) e.0 e.1 (each-without_first P m ns e.1)

each-without_taken : (P : Message → Type 0) (m : Option Message) (ns : List Message) → Each P ns → Each P (without_taken m ns)
each-without_taken P None ns e = e
each-without_taken P (Some m) ns e = each-without_first P m ns e

-- P of each message that goes on channel c of host h
abbrev pub OnChannel : (Message → Type 0) → ℕ → Channel → Out → Type 0
OnChannel P h c o = is_on h c o ≡ true → P o.message

sent-step :
    (P : Message → Type 0) (o : Out) (kept : List Out) (b : Bool) → (b ≡ true → P o.message) → Each P (map (λ (p : Out). p.message) kept)
    → Each P (map (λ (p : Out). p.message) (cond b (o ∷ kept) kept))
sent-step P o kept true here later = (here refl, later)
sent-step P o kept false here later = later

each-sent :
    (P : Message → Type 0) (h : ℕ) (c : Channel) (os : List Out) → Each (OnChannel P h c) os → Each P (map (λ (p : Out). p.message) (filter (is_on h c) os))
each-sent P h c [] e = tt
each-sent P h c (o ∷ os) e = sent-step P o (filter (is_on h c) os) (is_on h c o) e.0 (each-sent P h c os e.1)

-- what is in flight on a channel has what each message had that was sent there
pub each-in_flight :
    (P : Message → Type 0) (h : ℕ) (c : Channel) (t : List Event) → Each (λ e. Each (OnChannel P h c) (outs e.sends)) t → Each P (in_flight h c t)
each-in_flight P h c [] k = tt
each-in_flight P h c (e ∷ past) k =
    each_append P (without_taken (takes_on h c e.cause) (in_flight h c past)) (sends_on h c e)
    (each-without_taken P (takes_on h c e.cause) (in_flight h c past) (each-in_flight P h c past k.1)) (each-sent P h c (outs e.sends) k.0)

-- what is in flight on a channel goes on that channel
pub in_flight-channel : (h : ℕ) (c : Channel) (t : List Event) → Each (λ m. channel_of m ≡ c) (in_flight h c t)
in_flight-channel h c t =
    each-in_flight (λ m. channel_of m ≡ c) h c t
    (each_holds _ (λ e. each_holds (OnChannel (λ m. channel_of m ≡ c) h c) (λ o is. channel_eq-same (channel_of o.message) c (and_parts _ _ is).1) (outs e.sends)) t)
