-- Who takes from a channel and who sends on it: by the profile, its receiver alone and its sender alone.
use Rattle.std.proofs.Common.{◌≡◌, ℕ, Bool, true, false, IsTrue, cond, refl, sym}
use Rattle.std.specs.Prelude.{not, ◌==◌, ◌||◌}
use Rattle.std.proofs.lemmas.Bool.{and_parts, eqb-true, false≢true}
use Rattle.cxl_message.specs.declared.events.Out.{Out}
use Rattle.cxl_message.specs.declared.messages.Message.{Message}
use Rattle.cxl_message.specs.Channels.{goes_to_device}
use Rattle.cxl_message.specs.Messages.{channel_of}
use Rattle.cxl_message.specs.Setup.{Configuration}
use Rattle.coherence_model.specs.Fitting.{is_device, is_host, out_fits, take_fits}
use Rattle.coherence_model.specs.Next.{receiver, sender}
use Rattle.coherence_model.specs.Traces.{device}

-- who may take a message that goes this way: the device if it goes there, else the host
taker : (at_device up : Bool) (g h : ℕ) → (at_device ≡ true → g ≡ device) → (at_device || (h == g)) ≡ true → cond at_device up (not up) ≡ true → g ≡ cond up device h
taker true true g h d a w = d refl
taker true false g h d a w = absurd (false≢true w)
taker false true g h d a w = absurd (false≢true w)
taker false false g h d a w = sym (eqb-true h g a)

-- who may send it: the host if it goes to the device, else the device
giver : (at_device up : Bool) (g h : ℕ) → (at_device ≡ true → g ≡ device) → (at_device || (h == g)) ≡ true → not (cond at_device up (not up)) ≡ true → g ≡ cond up h device
giver true true g h d a w = absurd (false≢true w)
giver true false g h d a w = d refl
giver false true g h d a w = sym (eqb-true h g a)
giver false false g h d a w = absurd (false≢true w)

-- what a message's take says, as facts
pub record TakeParts (setup : Configuration) (g h : ℕ) (m : Message) : Type 0 where
  pub host : is_host setup h ≡ true
  pub receiver : g ≡ receiver h (channel_of m)

-- a message is taken by the receiver of its channel alone
pub take_parts : (setup : Configuration) (g h : ℕ) (m : Message) → IsTrue (take_fits setup g h m) → TakeParts setup g h m
take_parts setup g h m fits =
    let named = and_parts _ _ fits in
    let right = and_parts _ _ named.0 in
    let ways = and_parts _ _ right.0 in
    let there = and_parts _ _ ways.0 in
    record { host = there.0; receiver = taker (is_device g) (goes_to_device (channel_of m)) g h (λ d. eqb-true g device d) there.1 ways.1 }

-- a message is sent by the sender of its channel alone
pub record SendParts (setup : Configuration) (g : ℕ) (o : Out) : Type 0 where
  pub host : is_host setup o.host ≡ true
  pub sender : g ≡ sender o.host (channel_of o.message)

pub send_parts : (setup : Configuration) (g : ℕ) (o : Out) → IsTrue (out_fits setup g o) → SendParts setup g o
send_parts setup g o fits =
    let named = and_parts _ _ fits in
    let right = and_parts _ _ named.0 in
    let ways = and_parts _ _ right.0 in
    let there = and_parts _ _ ways.0 in
    record { host = there.0; sender = giver (is_device g) (goes_to_device (channel_of o.message)) g o.host (λ d. eqb-true g device d) there.1 ways.1 }
