-- A Credit for a channel is a message on that channel's credit channel, and is counted there.
use Rattle.std.proofs.Common.{◌≡◌, ℕ, Bool, true, false, IsTrue, List, [], ◌∷◌, Some, None, cond, length, refl, sym, ◌∙◌, ap, arith}
use Rattle.std.specs.Prelude.{count_by, filter, map, ◌&&◌}
use Rattle.std.specs.Option.{option_map_or}
use Rattle.std.proofs.lemmas.Bool.{and_from, and_parts, eq-eqb, false≢true}
use Rattle.std.proofs.lemmas.List.Sums.{sum_by-cons}
use Rattle.cxl_message.specs.declared.channels.Channel.{Channel}
use Rattle.cxl_message.specs.declared.events.Cause.{Cause}
use Rattle.cxl_message.specs.declared.events.Out.{Out}
use Rattle.cxl_message.specs.declared.messages.Message.{Message}
use Rattle.cxl_message.specs.Channels.{credit_channel, has_credits}
use Rattle.cxl_message.specs.Messages.{channel_of, message_eq}
use Rattle.coherence_model.specs.Credits.{is_credit_for, takes_credit}
use Rattle.coherence_model.specs.Flight.{is_on, takes_on}
use Rattle.coherence_model.specs.Next.{receiver, sender}
use Rattle.cxl_message.proofs.SameNames.{same-channel_eq}
use Rattle.coherence_lemmas.proofs.CreditsReach.{on_channel}
use Rattle.cxl_message.proofs.SameMessages.{message_eq-same, same-message_eq}
use Rattle.coherence_lemmas.proofs.Queues.{counts}

-- two tests of which each implies the other are one
same_tests : (x y : Bool) → (x ≡ true → y ≡ true) → (y ≡ true → x ≡ true) → x ≡ y
same_tests true y there back = sym (there refl)
same_tests false true there back = back refl
same_tests false false there back = refl

-- a Credit for channel c of host h is on that host's credit channel, and is that message
pub credit_for_is : (h : ℕ) (c : Channel) (o : Out) → is_credit_for h c o ≡ (is_on h (credit_channel c) o && message_eq (Message.Credit c) o.message)
credit_for_is h c o = same_tests (is_credit_for h c o) (is_on h (credit_channel c) o && message_eq (Message.Credit c) o.message)
    (λ credit.
    let parts = and_parts _ _ credit in
    let is = message_eq-same o.message (Message.Credit c) parts.1 in
    and_from _ _ (and_from _ _ parts.0 (same-channel_eq (channel_of o.message) (credit_channel c) (ap channel_of is))) (same-message_eq (Message.Credit c) o.message (sym is)))
    (λ on.
    let parts = and_parts _ _ on in
    and_from _ _ (eq-eqb o.host h (on_channel h (credit_channel c) o parts.0).host) (same-message_eq o.message (Message.Credit c) (sym (message_eq-same (Message.Credit c) o.message parts.1))))

-- how many of the sent messages are Credits for channel c of host h
abbrev pub credits_of : ℕ → Channel → List Out → ℕ
credits_of h c os = length (filter (is_credit_for h c) os)

-- one more sent message, by whether it is on the credit channel and whether it is the Credit
counted_by :
    (test : Message → Bool) (o : Out) (xs ys : List Out) (on same : Bool) → test o.message ≡ same → count_by test (map (λ x. x.message) xs) ≡ length ys
    → count_by test (map (λ x. x.message) (cond on (o ∷ xs) xs)) ≡ length (cond (on && same) (o ∷ ys) ys)
counted_by test o xs ys true true is more = let first = sum_by-cons (counts test) o.message (map (λ x. x.message) xs) in let one = ap {B = ℕ} (λ b. cond b 1 0) is in omega (arith, first, one, more)
counted_by test o xs ys true false is more = let first = sum_by-cons (counts test) o.message (map (λ x. x.message) xs) in let one = ap {B = ℕ} (λ b. cond b 1 0) is in omega (arith, first, one, more)
counted_by test o xs ys false same is more = more

-- the Credits among the messages on the credit channel are the Credits sent
pub credits_counted_on : (h : ℕ) (c : Channel) (os : List Out) → count_by (message_eq (Message.Credit c)) (map (λ x. x.message) (filter (is_on h (credit_channel c)) os)) ≡ credits_of h c os
credits_counted_on h c [] = refl
credits_counted_on h c (o ∷ os) =
    counted_by (message_eq (Message.Credit c)) o (filter (is_on h (credit_channel c)) os) (filter (is_credit_for h c) os) (is_on h (credit_channel c) o) (message_eq (Message.Credit c) o.message) refl (credits_counted_on h c os)
    ∙ ap (λ b. length (cond b (o ∷ filter (is_credit_for h c) os) (filter (is_credit_for h c) os))) (sym (credit_for_is h c o))

-- a taken message, by whether it is on the credit channel and whether it is the Credit
taken_by : (test : Message → Bool) (m : Message) (on same : Bool) → test m ≡ same → option_map_or (counts test) (cond on (Some m) None) 0 ≡ cond (on && same) 1 0
taken_by test m true same is = ap {B = ℕ} (λ b. cond b 1 0) is
taken_by test m false same is = refl

-- a taken Credit is one taken from the credit channel
pub credit_taken_on : (h : ℕ) (c : Channel) (cause : Cause) → option_map_or (counts (message_eq (Message.Credit c))) (takes_on h (credit_channel c) cause) 0 ≡ cond (takes_credit h c cause) 1 0
credit_taken_on h c (Cause.Op s i op) = refl
credit_taken_on h c (Cause.Take k m) =
    let o : Out = record { host = k; message = m } in
    taken_by (message_eq (Message.Credit c)) m (is_on h (credit_channel c) o) (message_eq (Message.Credit c) m) refl ∙ ap {B = ℕ} (λ b. cond b 1 0) (sym (credit_for_is h c o))
credit_taken_on h c (Cause.Act act) = refl

-- the credit channel goes the other way
pub credits_go_back : (h : ℕ) (c : Channel) → IsTrue (has_credits c) → (sender h (credit_channel c) ≡ receiver h c) × (receiver h (credit_channel c) ≡ sender h c)
credits_go_back h Channel.Req credited = (refl, refl)
credits_go_back h Channel.Rwd credited = (refl, refl)
credits_go_back h Channel.BiRsp credited = (refl, refl)
credits_go_back h Channel.Ndr credited = (refl, refl)
credits_go_back h Channel.Drs credited = (refl, refl)
credits_go_back h Channel.BiSnp credited = (refl, refl)
credits_go_back h Channel.CreditUp credited = absurd (false≢true credited)
credits_go_back h Channel.CreditDown credited = absurd (false≢true credited)
