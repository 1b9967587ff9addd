-- What it means that a trace is coherent, and that every run is.
use Rattle.std.specs.Prelude.{List, length, ◌++◌, ◌≡◌, ◌≤◌}
use Rattle.cxl_message.specs.declared.events.Event.{Event}
use Rattle.cxl_message.specs.declared.identifiers.Bytes64.{Bytes64}
use Rattle.cxl_message.specs.declared.identifiers.Line.{Line}
use Rattle.cxl_message.specs.Setup.{Configuration, IsWithinLimits}
use Rattle.coherence_model.specs.Coherence.{Alone, IsLegal}
use Rattle.coherence_model.specs.Next.{next_steps}
use Rattle.coherence_model.specs.Pending.{IsPending}
use Rattle.coherence_model.specs.Runs.{IsRun}

-- a trace is a run whose commits form a legal history; after each front of it a writable copy is the only copy, and where something is pending some step is allowed next
-- (a trace has its newest event first, so a front is what is left without the events that stand before it in the list)
pub record IsCoherent (setup : Configuration) (opening : List (Line × Bytes64)) (t : List Event) : Type 0 where
  pub run : IsRun setup opening t
  pub legal : IsLegal setup opening t
  pub alone : (later past : List Event) → t ≡ later ++ past → Alone setup past
  pub goes_on : (later past : List Event) → t ≡ later ++ past → IsPending setup past → 1 ≤ length (next_steps setup opening past)

-- every run is coherent
abbrev pub RunsAreCoherent : Type 0
RunsAreCoherent = (setup : Configuration) (opening : List (Line × Bytes64)) → IsWithinLimits setup → (t : List Event) → IsRun setup opening t → IsCoherent setup opening t
