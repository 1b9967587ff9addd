-- Laws of progress, after every run of a setup within its limits: what is in flight may be taken, and nothing that is pending waits for ever.
use Rattle.std.specs.Prelude.{Bool, IsTrue, List, [], false, is_some, length, ℕ, ◌≡◌, ◌≤◌}
use Rattle.std.specs.Option.{option_map_or}
use Rattle.cxl_message.specs.declared.channels.Channel.{Channel}
use Rattle.cxl_message.specs.declared.events.Cause.{Cause}
use Rattle.cxl_message.specs.declared.events.Event.{Event}
use Rattle.cxl_message.specs.declared.events.Op.{Op}
use Rattle.cxl_message.specs.declared.identifiers.Bytes64.{Bytes64}
use Rattle.cxl_message.specs.declared.identifiers.Line.{Line}
use Rattle.cxl_message.specs.declared.messages.Message.{Message}
use Rattle.cxl_message.specs.Setup.{Configuration, IsWithinLimits}
use Rattle.coherence_model.specs.Fitting.{is_host}
use Rattle.coherence_model.specs.Flight.{in_flight, is_takeable}
use Rattle.coherence_model.specs.Next.{event_with, next_steps, receiver}
use Rattle.coherence_model.specs.Pending.{IsPending, is_pending}
use Rattle.coherence_model.specs.Refusals.{cause_passes}
use Rattle.coherence_model.specs.Rows.{emission}
use Rattle.coherence_model.specs.Rules.{s0_stream_order}
use Rattle.coherence_model.specs.Runs.{IsRun, is_allowed}
use Rattle.coherence_model.specs.Traces.{events_of}

-- whether the receiver of channel c of host h may take a message, its room and credits included (own rule)
abbrev pub may_take : Configuration → List (Line × Bytes64) → List Event → ℕ → Channel → Message → Bool
may_take setup opening t h c m = is_some (emission setup opening (receiver h c) (Cause.Take h m) (events_of (receiver h c) t))

-- a fact on a trace and a host of the setup holds after every run
abbrev pub ForEachHost : (Configuration → List (Line × Bytes64) → List Event → ℕ → Type 0) → Type 0
ForEachHost Fact =
    (setup : Configuration) (opening : List (Line × Bytes64)) → IsWithinLimits setup → (t : List Event) → IsRun setup opening t
    → (h : ℕ) → IsTrue (is_host setup h) → Fact setup opening t h

-- what may be taken from channel c may be taken there: its row holds, with room and credits
abbrev pub MayBeTaken : Channel → Type 0
MayBeTaken c = ForEachHost (λ setup opening t h. (m : Message) → IsTrue (is_takeable m (in_flight h c t)) → IsTrue (may_take setup opening t h c m))

-- whether an agent's row emits something for a cause, credits included, and the event of it is allowed (own rule)
abbrev pub may_begin : Configuration → List (Line × Bytes64) → List Event → ℕ → Cause → Bool
may_begin setup opening t g cause = option_map_or (λ w. is_allowed setup opening t (event_with g cause w)) (emission setup opening g cause (events_of g t)) false

-- where something is pending, some step is next
abbrev pub PendingRunsGoOn : Type 0
PendingRunsGoOn =
    (setup : Configuration) (opening : List (Line × Bytes64)) → IsWithinLimits setup → (t : List Event) → IsRun setup opening t
    → IsPending setup t → 1 ≤ length (next_steps setup opening t)

-- where no step is next, nothing is pending
abbrev pub StuckRunsAreAtRest : Type 0
StuckRunsAreAtRest =
    (setup : Configuration) (opening : List (Line × Bytes64)) → IsWithinLimits setup → (t : List Event) → IsRun setup opening t
    → next_steps setup opening t ≡ [] → is_pending setup t ≡ false

-- where no step is next, each operation that is well formed, of a line and a stream of its host that exist, and in its stream's order may begin
abbrev pub OperationsMayBegin : Type 0
OperationsMayBegin =
    ForEachHost (λ setup opening t h. next_steps setup opening t ≡ [] → (s i : ℕ) (op : Op) → IsTrue (cause_passes setup h (Cause.Op s i op))
    → IsTrue (s0_stream_order (Cause.Op s i op) (events_of h t)) → IsTrue (may_begin setup opening t h (Cause.Op s i op)))
