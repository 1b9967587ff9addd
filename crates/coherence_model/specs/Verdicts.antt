-- What the check of a list of events answers.
use Rattle.std.specs.Prelude.{List, None, Option, Some, [], length, ℕ, ◌∷◌}
use Rattle.cxl_message.specs.declared.events.Event.{Event}
use Rattle.cxl_message.specs.declared.identifiers.Bytes64.{Bytes64}
use Rattle.cxl_message.specs.declared.identifiers.Line.{Line}
use Rattle.cxl_message.specs.declared.states.RuleNo.{RuleNo}
use Rattle.cxl_message.specs.Setup.{Configuration}
use Rattle.coherence_model.specs.Runs.{first_broken}
use Rattle.coherence_model.specs.Traces.{history}

-- a run with so many events and commits, or the number of the first event that isn't allowed, with its rule (own rule)
pub data Verdict : Type 0 where
  Run : ℕ → ℕ → Verdict
  Broken : ℕ → RuleNo → Verdict

-- the verdict where an event broke a rule, or else that on the rest (own rule)
abbrev pub broken_or : ℕ → Option RuleNo → Verdict → Verdict
broken_or n None rest = rest
broken_or n (Some rule) rest = Verdict.Broken n rule

-- the verdict on further events, oldest first, after a run (own rule)
abbrev pub verdict_after : Configuration → List (Line × Bytes64) → List Event → List Event → Verdict
verdict_after setup opening past [] = Verdict.Run (length past) (length (history past))
verdict_after setup opening past (e ∷ later) = broken_or (length past) (first_broken setup opening past e) (verdict_after setup opening (e ∷ past) later)

-- the verdict on a list of events, oldest first (own rule)
abbrev pub verdict_on : Configuration → List (Line × Bytes64) → List Event → Verdict
verdict_on setup opening events = verdict_after setup opening [] events
