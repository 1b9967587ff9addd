-- Lists of one agent's own events that its rules allow, whatever the other agents did.
use Rattle.std.specs.Prelude.{Bool, IsTrue, List, [], true, ℕ, ◌&&◌, ◌==◌, ◌∷◌}
use Rattle.cxl_message.specs.declared.events.Event.{Event}
use Rattle.cxl_message.specs.declared.identifiers.Bytes64.{Bytes64}
use Rattle.cxl_message.specs.declared.identifiers.Line.{Line}
use Rattle.cxl_message.specs.Setup.{Configuration, IsWithinLimits}
use Rattle.coherence_model.specs.Fitting.{is_host}
use Rattle.coherence_model.specs.Runs.{own_half}
use Rattle.coherence_model.specs.Traces.{device}

-- whether these are events of agent g, newest first, and the own half of each holds after those before it (own rule)
abbrev pub is_own_run : Configuration → List (Line × Bytes64) → ℕ → List Event → Bool
is_own_run setup opening g [] = true
is_own_run setup opening g (e ∷ past) = is_own_run setup opening g past && ((e.agent == g) && own_half setup opening e past)

-- these are events of agent g that its rules allow, as a fact (own rule)
abbrev pub IsOwnRun : Configuration → List (Line × Bytes64) → ℕ → List Event → Type 0
IsOwnRun setup opening g mine = IsTrue (is_own_run setup opening g mine)

-- a fact on a host's own events holds of every list of them that its rules allow, in each setup within its limits
abbrev pub ForEachHostRun : (Configuration → ℕ → List Event → Type 0) → Type 0
ForEachHostRun Fact =
    (setup : Configuration) (opening : List (Line × Bytes64)) → IsWithinLimits setup → (h : ℕ) → IsTrue (is_host setup h)
    → (mine : List Event) → IsOwnRun setup opening h mine → Fact setup h mine

-- a fact on the device's own events holds of every list of them that its rules allow
abbrev pub ForEachDeviceRun : (Configuration → List Event → Type 0) → Type 0
ForEachDeviceRun Fact = (setup : Configuration) (opening : List (Line × Bytes64)) (mine : List Event) → IsOwnRun setup opening device mine → Fact setup mine
