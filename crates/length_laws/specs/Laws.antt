-- How many operations a run has, how many events, and how much it weighs.
use Rattle.std.specs.Prelude.{List, count_by, length, ◌*◌, ◌+◌, ◌-◌, ◌<◌, ◌^◌, ◌≤◌}
use Rattle.cxl_message.specs.declared.events.Event.{Event}
use Rattle.cxl_message.specs.declared.identifiers.Bytes64.{Bytes64}
use Rattle.cxl_message.specs.declared.identifiers.Line.{Line}
use Rattle.cxl_message.specs.declared.limits.TheConstants.{MAX_STREAMS}
use Rattle.cxl_message.specs.Setup.{Configuration, IsWithinLimits}
use Rattle.coherence_model.specs.Driven.{event_bound}
use Rattle.coherence_model.specs.Rules.{most_operations}
use Rattle.coherence_model.specs.Runs.{IsRun}
use Rattle.coherence_model.specs.Weight.{is_operation, weight}
use Rattle.commit_laws.specs.Laws.{ForEachFollowing}

-- a fact holds after every run of a setup within its limits
abbrev pub AfterEachRun : (Configuration → List Event → Type 0) → Type 0
AfterEachRun Fact = (setup : Configuration) (opening : List (Line × Bytes64)) → IsWithinLimits setup → (t : List Event) → IsRun setup opening t → Fact setup t

-- the weight and the number of events are together at most `(108 * H - 3)` for each operation
abbrev pub WeightIsPaid : Type 0
WeightIsPaid = AfterEachRun (λ setup t. weight setup t + length t ≤ (108 * setup.hosts - 3) * count_by (λ e. is_operation e.cause) t)

-- there are at most as many operations as stream orders allow: so many of each stream
abbrev pub OperationsAreFew : Type 0
OperationsAreFew = AfterEachRun (λ setup t. count_by (λ e. is_operation e.cause) t ≤ most_operations * MAX_STREAMS)

-- so the weight fits in 49 bits
abbrev pub WeightFits : Type 0
WeightFits = AfterEachRun (λ setup t. weight setup t < 2 ^ 49)

-- and so does the number of events
abbrev pub LengthFits : Type 0
LengthFits = AfterEachRun (λ setup t. length t < 2 ^ 49)

-- a run that follows a script has at most as many events as the script's bound
abbrev pub FollowingIsShort : Type 0
FollowingIsShort = ForEachFollowing (λ script t. length t ≤ event_bound script)
