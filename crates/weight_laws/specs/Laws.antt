-- Laws of the weight over every run of a setup within its limits: each event that isn't an operation lowers it, and an operation raises it by a bound.
use Rattle.std.specs.Prelude.{IsTrue, List, count_by, length, ◌*◌, ◌-◌, ◌∷◌, ◌≤◌}
use Rattle.cxl_message.specs.declared.events.Event.{Event}
use Rattle.cxl_message.specs.declared.identifiers.Bytes64.{Bytes64}
use Rattle.cxl_message.specs.declared.identifiers.Line.{Line}
use Rattle.cxl_message.specs.Setup.{Configuration, IsWithinLimits}
use Rattle.coherence_model.specs.Runs.{IsRun}
use Rattle.coherence_model.specs.Weight.{is_operation, weight_is_bounded}

-- each event of a run lowers the weight, or is an operation and raises it by at most `108 * H - 4`
abbrev pub WeightsAreBounded : Type 0
WeightsAreBounded =
    (setup : Configuration) (opening : List (Line × Bytes64)) → IsWithinLimits setup → (past : List Event) (e : Event) → IsRun setup opening (e ∷ past)
    → IsTrue (weight_is_bounded setup past e)

-- a run with n operations has at most `(108 * H - 3) * n` events
abbrev pub RunsAreShort : Type 0
RunsAreShort =
    (setup : Configuration) (opening : List (Line × Bytes64)) → IsWithinLimits setup → (t : List Event) → IsRun setup opening t
    → length t ≤ (108 * setup.hosts - 3) * count_by (λ e. is_operation e.cause) t
