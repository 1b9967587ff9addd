-- The laws of the next steps, over every run of a setup within its limits.
use Rattle.std.specs.Prelude.{IsTrue, List, Some, count_by, if◌then◌else◌, not, ℕ, ◌&&◌, ◌↔◌, ◌≡◌}
use Rattle.std.specs.List.{list_all, list_any}
use Rattle.cxl_message.specs.declared.events.Cause.{Cause}
use Rattle.cxl_message.specs.declared.events.Event.{Event}
use Rattle.cxl_message.specs.declared.identifiers.Bytes64.{Bytes64}
use Rattle.cxl_message.specs.declared.identifiers.Line.{Line}
use Rattle.cxl_message.specs.Messages.{channel_of, message_eq}
use Rattle.cxl_message.specs.Setup.{Configuration, IsWithinLimits}
use Rattle.coherence_model.specs.Flight.{in_flight}
use Rattle.coherence_model.specs.Emission.{Emission}
use Rattle.coherence_model.specs.Next.{event_with, next_steps}
use Rattle.coherence_model.specs.Refusals.{cause_passes}
use Rattle.coherence_model.specs.Rows.{emission}
use Rattle.coherence_model.specs.Rules.{k0_takeable, s0_stream_order}
use Rattle.coherence_model.specs.Traces.{events_of}
use Rattle.coherence_model.specs.Runs.{IsRun, is_allowed}
use Rattle.coherence_model.specs.Weight.{is_operation}
use Rattle.step_laws.specs.Events.{event_eq}

-- how often a cause stands among the next steps where its event is allowed: a take once for each equal message in flight, an act once, an operation never (own rule)
abbrev pub step_count : Cause → List Event → ℕ
step_count (Cause.Op _ _ _) t = 0
step_count (Cause.Take h m) t = count_by (message_eq m) (in_flight h (channel_of m) t)
step_count (Cause.Act _) t = 1

-- how often an event stands among the next steps: never where it isn't allowed (own rule)
abbrev pub expected_count : Configuration → List (Line × Bytes64) → List Event → Event → ℕ
expected_count setup opening t e = if is_allowed setup opening t e then step_count e.cause t else 0

-- two events are counted as the same exactly where they are the same
abbrev pub EventsDecide : Type 0
EventsDecide = (e f : Event) → IsTrue (event_eq e f) ↔ (e ≡ f)

-- each event stands among the next steps as often as it should
abbrev pub NextStepsAreCounted : Type 0
NextStepsAreCounted =
    (setup : Configuration) (opening : List (Line × Bytes64)) → IsWithinLimits setup → (t : List Event) → IsRun setup opening t → (e : Event)
    → count_by (event_eq e) (next_steps setup opening t) ≡ expected_count setup opening t e

-- each of the next steps is allowed and isn't an operation
abbrev pub NextStepsAreAllowed : Type 0
NextStepsAreAllowed =
    (setup : Configuration) (opening : List (Line × Bytes64)) → IsWithinLimits setup → (t : List Event) → IsRun setup opening t
    → IsTrue (list_all (λ e. is_allowed setup opening t e && not (is_operation e.cause)) (next_steps setup opening t))

-- each event that is allowed and isn't an operation is one of the next steps
abbrev pub AllowedStepsAreNext : Type 0
AllowedStepsAreNext =
    (setup : Configuration) (opening : List (Line × Bytes64)) → IsWithinLimits setup → (t : List Event) → IsRun setup opening t → (e : Event)
    → IsTrue (is_allowed setup opening t e) → IsTrue (not (is_operation e.cause)) → IsTrue (list_any (event_eq e) (next_steps setup opening t))

-- what a row emits after a run, for a cause that passes, in its stream's order and with its message there to be taken, is an allowed event
abbrev pub EmittedEventsAreAllowed : Type 0
EmittedEventsAreAllowed =
    (setup : Configuration) (opening : List (Line × Bytes64)) → IsWithinLimits setup → (t : List Event) → IsRun setup opening t
    → (g : ℕ) (cause : Cause) (w : Emission) → IsTrue (cause_passes setup g cause) → IsTrue (s0_stream_order cause (events_of g t)) → IsTrue (k0_takeable cause t)
    → emission setup opening g cause (events_of g t) ≡ Some w → IsTrue (is_allowed setup opening t (event_with g cause w))
