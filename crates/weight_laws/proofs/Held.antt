-- The messages that an agent holds of a channel, after one more event: a take adds one, and a Credit sent takes one away.
use Rattle.std.proofs.Common.{◌≡◌, ℕ, ◌+◌, ◌≤◌, List, ◌∷◌, filter, length, refl, arith}
use Rattle.std.specs.Option.{option_len}
use Rattle.cxl_message.specs.declared.channels.Channel.{Channel}
use Rattle.cxl_message.specs.declared.events.Cause.{Cause}
use Rattle.cxl_message.specs.declared.events.Event.{Event}
use Rattle.cxl_message.specs.declared.events.Sends.{Sends}
use Rattle.cxl_message.specs.declared.identifiers.Bytes64.{Bytes64}
use Rattle.cxl_message.specs.declared.identifiers.Line.{Line}
use Rattle.cxl_message.specs.Events.{outs}
use Rattle.cxl_message.specs.Setup.{Configuration}
use Rattle.coherence_model.specs.Credits.{held_count, is_credit_for, returned_count, taken_count}
use Rattle.coherence_model.specs.Flight.{takes_on}
use Rattle.coherence_model.specs.Runs.{IsRun}
use Rattle.coherence_model.specs.Traces.{device, events_of}
use Rattle.credit_laws.proofs.Laws.{returned_were_taken}

-- what an event adds to the messages held, and what it takes away
abbrev pub taken_now : ℕ → Channel → Cause → ℕ
taken_now h c cause = option_len (takes_on h c cause)

abbrev pub returned_now : ℕ → Channel → Sends → ℕ
returned_now h c sends = length (filter (is_credit_for h c) (outs sends))

-- no more Credits were sent than messages taken
abbrev pub IsSound : ℕ → Channel → List Event → Type 0
IsSound h c mine = returned_count h c mine ≤ taken_count h c mine

pub held_changes : (h : ℕ) (c : Channel) (e : Event) (mine : List Event) → IsSound h c mine → IsSound h c (e ∷ mine) → held_count h c (e ∷ mine) + returned_now h c e.sends ≡ held_count h c mine + taken_now h c e.cause
held_changes h c e mine before after = omega (arith, before, after)

-- how many messages a host, and how many the device, holds of host h
abbrev pub host_held : ℕ → List Event → ℕ
host_held h mine = held_count h Channel.Ndr mine + held_count h Channel.Drs mine + held_count h Channel.BiSnp mine

abbrev pub device_held : ℕ → List Event → ℕ
device_held h mine = held_count h Channel.Req mine + held_count h Channel.Rwd mine + held_count h Channel.BiRsp mine

-- what a cause takes on a host's three channels, and on the device's
abbrev pub host_takes_now : ℕ → Cause → ℕ
host_takes_now h cause = taken_now h Channel.Ndr cause + taken_now h Channel.Drs cause + taken_now h Channel.BiSnp cause

abbrev pub device_takes_now : ℕ → Cause → ℕ
device_takes_now h cause = taken_now h Channel.Req cause + taken_now h Channel.Rwd cause + taken_now h Channel.BiRsp cause

abbrev pub host_returns_now : ℕ → Sends → ℕ
host_returns_now h sends = returned_now h Channel.Ndr sends + returned_now h Channel.Drs sends + returned_now h Channel.BiSnp sends

abbrev pub device_returns_now : ℕ → Sends → ℕ
device_returns_now h sends = returned_now h Channel.Req sends + returned_now h Channel.Rwd sends + returned_now h Channel.BiRsp sends

-- so it is on the channels of a host, and on those of the device
abbrev pub IsHostSound : ℕ → List Event → Type 0
IsHostSound h mine = IsSound h Channel.Ndr mine × IsSound h Channel.Drs mine × IsSound h Channel.BiSnp mine

abbrev pub IsDeviceSound : ℕ → List Event → Type 0
IsDeviceSound h mine = IsSound h Channel.Req mine × IsSound h Channel.Rwd mine × IsSound h Channel.BiRsp mine

pub host_held_changes : (h : ℕ) (e : Event) (mine : List Event) → IsHostSound h mine → IsHostSound h (e ∷ mine) → host_held h (e ∷ mine) + host_returns_now h e.sends ≡ host_held h mine + host_takes_now h e.cause
host_held_changes h e mine before after =
    let x = held_changes h Channel.Ndr e mine before.0 after.0 in
    let y = held_changes h Channel.Drs e mine before.1 after.1 in
    let z = held_changes h Channel.BiSnp e mine before.2 after.2 in
    sum_of _ _ _ _ _ _ _ _ _ _ _ _ x y z
  where
    sum_of : (a b c ra rb rc a' b' c' ta tb tc : ℕ) → a' + ra ≡ a + ta → b' + rb ≡ b + tb → c' + rc ≡ c + tc → (a' + b' + c') + (ra + rb + rc) ≡ (a + b + c) + (ta + tb + tc)
    sum_of a b c ra rb rc a' b' c' ta tb tc x y z = omega arith

pub device_held_changes : (h : ℕ) (e : Event) (mine : List Event) → IsDeviceSound h mine → IsDeviceSound h (e ∷ mine) → device_held h (e ∷ mine) + device_returns_now h e.sends ≡ device_held h mine + device_takes_now h e.cause
device_held_changes h e mine before after =
    let x = held_changes h Channel.Req e mine before.0 after.0 in
    let y = held_changes h Channel.Rwd e mine before.1 after.1 in
    let z = held_changes h Channel.BiRsp e mine before.2 after.2 in
    sum_of _ _ _ _ _ _ _ _ _ _ _ _ x y z
  where
    sum_of : (a b c ra rb rc a' b' c' ta tb tc : ℕ) → a' + ra ≡ a + ta → b' + rb ≡ b + tb → c' + rc ≡ c + tc → (a' + b' + c') + (ra + rb + rc) ≡ (a + b + c) + (ta + tb + tc)
    sum_of a b c ra rb rc a' b' c' ta tb tc x y z = omega arith

-- after every run
pub host_is_sound : (setup : Configuration) (opening : List (Line × Bytes64)) (h : ℕ) (t : List Event) → IsRun setup opening t → IsHostSound h (events_of h t)
host_is_sound setup opening h t run = (returned_were_taken setup opening t run h Channel.Ndr refl, returned_were_taken setup opening t run h Channel.Drs refl, returned_were_taken setup opening t run h Channel.BiSnp refl)

pub device_is_sound : (setup : Configuration) (opening : List (Line × Bytes64)) (h : ℕ) (t : List Event) → IsRun setup opening t → IsDeviceSound h (events_of device t)
device_is_sound setup opening h t run = (returned_were_taken setup opening t run h Channel.Req refl, returned_were_taken setup opening t run h Channel.Rwd refl, returned_were_taken setup opening t run h Channel.BiRsp refl)
