-- How many messages are in flight and how many steps are next, after every run.
use Rattle.std.specs.Prelude.{List, length, ℕ, ◌*◌, ◌≤◌}
use Rattle.cxl_message.specs.declared.channels.Channel.{Channel}
use Rattle.cxl_message.specs.declared.events.Event.{Event}
use Rattle.cxl_message.specs.declared.identifiers.Bytes64.{Bytes64}
use Rattle.cxl_message.specs.declared.identifiers.Line.{Line}
use Rattle.cxl_message.specs.Setup.{Configuration, IsWithinLimits}
use Rattle.coherence_model.specs.Flight.{in_flight}
use Rattle.coherence_model.specs.Next.{next_steps}
use Rattle.coherence_model.specs.Runs.{IsRun}

-- no channel has more messages in flight than three times the credits
abbrev pub InFlightFits : Type 0
InFlightFits =
    (setup : Configuration) (opening : List (Line × Bytes64)) (t : List Event) → IsRun setup opening t → (h : ℕ) (c : Channel) → length (in_flight h c t) ≤ 3 * setup.credits

-- a bound on the next steps: 16 hosts with 1,795 of their own and 131 of the device each, and 65,536 tasks with 17 each are fewer (own rule)
abbrev pub most_next_steps : ℕ
most_next_steps = 1200000

-- no more steps are next
abbrev pub NextStepsAreFew : Type 0
NextStepsAreFew =
    (setup : Configuration) (opening : List (Line × Bytes64)) → IsWithinLimits setup → (t : List Event) → IsRun setup opening t → length (next_steps setup opening t) ≤ most_next_steps
