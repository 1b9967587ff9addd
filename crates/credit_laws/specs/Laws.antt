-- Laws of credits, after every run: for each host h and each channel c that has credits.
use Rattle.std.specs.Prelude.{IsTrue, List, if◌then◌else◌, length, ℕ, ◌+◌, ◌≡◌, ◌≤◌}
use Rattle.cxl_message.specs.declared.channels.Channel.{Channel}
use Rattle.cxl_message.specs.declared.events.Event.{Event}
use Rattle.cxl_message.specs.declared.identifiers.Bytes64.{Bytes64}
use Rattle.cxl_message.specs.declared.identifiers.Line.{Line}
use Rattle.cxl_message.specs.Channels.{goes_to_device, has_credits}
use Rattle.cxl_message.specs.Setup.{Configuration}
use Rattle.coherence_model.specs.Buffers.{device_buffered}
use Rattle.coherence_model.specs.CreditFacts.{credits_add_up, credits_counted, credits_in_flight}
use Rattle.coherence_model.specs.Credits.{earned_count, held_count, owed_count, returned_count, sent_count, taken_count}
use Rattle.coherence_model.specs.Flight.{in_flight}
use Rattle.coherence_model.specs.Next.{receiver, sender}
use Rattle.coherence_model.specs.Runs.{IsRun}
use Rattle.coherence_model.specs.Snoops.{host_buffered}
use Rattle.coherence_model.specs.Traces.{events_of}

-- how many messages of channel c of host h its receiver holds buffered, by the receiver's own events (own rule)
abbrev pub buffered_count : ℕ → Channel → List Event → ℕ
buffered_count h c mine = if goes_to_device c then device_buffered h c mine else host_buffered c mine

-- a fact holds after every run, for each host and each channel that has credits
abbrev pub AfterEachRun : (Configuration → List Event → ℕ → Channel → Type 0) → Type 0
AfterEachRun Fact =
    (setup : Configuration) (opening : List (Line × Bytes64)) (t : List Event) → IsRun setup opening t
    → (h : ℕ) (c : Channel) → IsTrue (has_credits c) → Fact setup t h c

-- the credits left, the messages in flight, those held and the Credits in flight are the setup's credits
abbrev pub CreditsOfChannelsAddUp : Type 0
CreditsOfChannelsAddUp = AfterEachRun (λ setup t h c. credits_counted setup t h c ≡ setup.credits)

-- so they are for all hosts and channels at once
abbrev pub CreditsAddUp : Type 0
CreditsAddUp = (setup : Configuration) (opening : List (Line × Bytes64)) (t : List Event) → IsRun setup opening t → IsTrue (credits_add_up setup t)

-- the messages sent are those taken and those in flight
abbrev pub SentAreTakenOrInFlight : Type 0
SentAreTakenOrInFlight =
    AfterEachRun (λ setup t h c. sent_count h c (events_of (sender h c) t) ≡ taken_count h c (events_of (receiver h c) t) + length (in_flight h c t))

-- the Credits sent are those taken and those in flight
abbrev pub ReturnedAreEarnedOrInFlight : Type 0
ReturnedAreEarnedOrInFlight =
    AfterEachRun (λ setup t h c. returned_count h c (events_of (receiver h c) t) ≡ earned_count h c (events_of (sender h c) t) + credits_in_flight h c t)

-- no more messages were sent than there are credits and Credits taken
abbrev pub SentWithinCredits : Type 0
SentWithinCredits = AfterEachRun (λ setup t h c. sent_count h c (events_of (sender h c) t) ≤ setup.credits + earned_count h c (events_of (sender h c) t))

-- no more Credits were sent than messages were taken
abbrev pub ReturnedWereTaken : Type 0
ReturnedWereTaken = AfterEachRun (λ setup t h c. returned_count h c (events_of (receiver h c) t) ≤ taken_count h c (events_of (receiver h c) t))

-- no more messages are held than there are credits
abbrev pub HeldWithinCredits : Type 0
HeldWithinCredits = AfterEachRun (λ setup t h c. held_count h c (events_of (receiver h c) t) ≤ setup.credits)

-- the messages buffered and those owed, by the receiver's own events, are those held
abbrev pub AreHeld : ℕ → Channel → List Event → Type 0
AreHeld h c mine = buffered_count h c mine + owed_count h c (buffered_count h c mine) mine ≡ held_count h c mine

-- so they are after every run
abbrev pub BufferedAndOwedAreHeld : Type 0
BufferedAndOwedAreHeld = AfterEachRun (λ setup t h c. AreHeld h c (events_of (receiver h c) t))
