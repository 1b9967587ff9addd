-- Laws of runs. A trace has its newest event first, so what comes later stands in front.
use Rattle.std.specs.Prelude.{IsTrue, List, Some, [], is_none, map, not, reverse, slice_get, ℕ, ◌&&◌, ◌++◌, ◌==◌, ◌∷◌, ◌≡◌}
use Rattle.std.specs.List.{All, list_all}
use Rattle.cxl_message.specs.declared.channels.Channel.{Channel}
use Rattle.cxl_message.specs.declared.events.Event.{Event}
use Rattle.cxl_message.specs.declared.identifiers.Bytes64.{Bytes64}
use Rattle.cxl_message.specs.declared.identifiers.Line.{Line}
use Rattle.cxl_message.specs.declared.messages.Message.{Message}
use Rattle.cxl_message.specs.Setup.{Configuration}
use Rattle.coherence_model.specs.Flight.{in_flight, is_takeable, sent_on, taken_on}
use Rattle.coherence_model.specs.Next.{receiver, sender}
use Rattle.coherence_model.specs.Rules.{k0_takeable}
use Rattle.coherence_model.specs.Runs.{IsRun, first_broken, is_allowed, is_run, own_half}
use Rattle.coherence_model.specs.Traces.{events_of, numbered_events_of}

-- the empty trace is a run
abbrev pub EmptyTraceIsRun : Type 0
EmptyTraceIsRun = (setup : Configuration) (opening : List (Line × Bytes64)) → IsRun setup opening []

-- a trace with one more event is a run exactly where the trace is one and the event is allowed after it
abbrev pub RunGoesOn : Type 0
RunGoesOn =
    (setup : Configuration) (opening : List (Line × Bytes64)) (past : List Event) (e : Event)
    → is_run setup opening (e ∷ past) ≡ is_run setup opening past && is_allowed setup opening past e

-- a run without its last events is a run
abbrev pub FrontIsRun : Type 0
FrontIsRun =
    (setup : Configuration) (opening : List (Line × Bytes64)) (later past : List Event) → IsRun setup opening (later ++ past) → IsRun setup opening past

-- an event is allowed exactly where its own half holds, by its agent's own events, and where what it takes may be taken
abbrev pub AllowedInHalves : Type 0
AllowedInHalves =
    (setup : Configuration) (opening : List (Line × Bytes64)) (past : List Event) (e : Event)
    → is_allowed setup opening past e ≡ own_half setup opening e (events_of e.agent past) && k0_takeable e.cause past

-- an event is allowed exactly where it breaks no rule
abbrev pub AllowedBreaksNoRule : Type 0
AllowedBreaksNoRule =
    (setup : Configuration) (opening : List (Line × Bytes64)) (past : List Event) (e : Event)
    → is_allowed setup opening past e ≡ is_none (first_broken setup opening past e)

-- whether all of these events are other agents' than g
abbrev pub AreForeign : ℕ → List Event → Type 0
AreForeign g later = IsTrue (list_all (λ f. not (f.agent == g)) later)

-- other agents' events leave an agent's events as they were
abbrev pub OthersLeaveOwnEvents : Type 0
OthersLeaveOwnEvents = (g : ℕ) (later past : List Event) → AreForeign g later → events_of g (later ++ past) ≡ events_of g past

-- other agents' events leave the own half of an event as it was
abbrev pub OthersLeaveOwnHalf : Type 0
OthersLeaveOwnHalf =
    (setup : Configuration) (opening : List (Line × Bytes64)) (e : Event) (later past : List Event) → AreForeign e.agent later
    → own_half setup opening e (events_of e.agent (later ++ past)) ≡ own_half setup opening e (events_of e.agent past)

-- an event that is allowed after a trace is allowed after further events of other agents, where these make a run
abbrev pub OthersKeepAllowed : Type 0
OthersKeepAllowed =
    (setup : Configuration) (opening : List (Line × Bytes64)) (e : Event) (later past : List Event)
    → IsRun setup opening (later ++ past) → AreForeign e.agent later → IsTrue (is_allowed setup opening past e)
    → IsTrue (is_allowed setup opening (later ++ past) e)

-- without their numbers, the numbered events of an agent are its events
abbrev pub NumberedAreOwn : Type 0
NumberedAreOwn = (g : ℕ) (t : List Event) → map (λ p. p.1) (numbered_events_of g t) ≡ events_of g t

-- an event's number is its place in the trace, the oldest event first
abbrev pub NumbersArePlaces : Type 0
NumbersArePlaces = (g : ℕ) (t : List Event) → All (λ p. slice_get (reverse t) p.0 ≡ Some p.1) (numbered_events_of g t)

-- after a run, what was sent on a channel is what its sender sent there, by the sender's own events
abbrev pub SenderSentAll : Type 0
SenderSentAll =
    (setup : Configuration) (opening : List (Line × Bytes64)) (t : List Event) → IsRun setup opening t
    → (h : ℕ) (c : Channel) → sent_on h c (events_of (sender h c) t) ≡ sent_on h c t

-- after a run, what was taken from a channel is what its receiver took there, by the receiver's own events
abbrev pub ReceiverTookAll : Type 0
ReceiverTookAll =
    (setup : Configuration) (opening : List (Line × Bytes64)) (t : List Event) → IsRun setup opening t
    → (h : ℕ) (c : Channel) → taken_on h c (events_of (receiver h c) t) ≡ taken_on h c t

-- after a run, where what was taken from a channel is the beginning of what was sent there, the rest is in flight, in the order sent
abbrev pub RestIsInFlight : Type 0
RestIsInFlight =
    (setup : Configuration) (opening : List (Line × Bytes64)) (t : List Event) → IsRun setup opening t
    → (h : ℕ) (c : Channel) (rest : List Message) → sent_on h c t ≡ taken_on h c t ++ rest → in_flight h c t ≡ rest

-- the oldest message in flight may be taken
abbrev pub OldestMayBeTaken : Type 0
OldestMayBeTaken = (m : Message) (later : List Message) → IsTrue (is_takeable m (m ∷ later))
