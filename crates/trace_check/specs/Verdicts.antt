-- What the verdict on some bytes is. Every rule here is an own rule.
use Rattle.std.specs.Prelude.{List, ℕ, ◌≡◌}
use Rattle.cxl_message.specs.Setup.{Configuration}
use Rattle.cxl_message.specs.declared.events.Event.{Event}
use Rattle.cxl_message.specs.declared.identifiers.Bytes64.{Bytes64}
use Rattle.cxl_message.specs.declared.identifiers.Line.{Line}
use Rattle.cxl_codec.specs.declared.versions.Version.{Version}
use Rattle.coherence_model.specs.Verdicts.{Verdict as EventsVerdict, verdict_on}
use Rattle.trace_stream.specs.Items.{fault_at}
use Rattle.trace_stream.specs.Runs.{HasFault, IsTraceIn}
use Rattle.trace_check.specs.declared.verdicts.Verdict.{Verdict}

-- the bytes are a trace, of either version, with any names, and this is the verdict on its events after its opening
pub record IsTold (bytes : List ℕ) (verdict : EventsVerdict) : Type 0 where
  pub version : Version
  pub setup : Configuration
  pub names : List (ℕ × List ℕ)
  pub opening : List (Line × Bytes64)
  pub events : List Event
  pub trace : IsTraceIn bytes version setup names opening events
  pub told : verdict_on setup opening events ≡ verdict

-- the verdict on some bytes: they aren't a trace, and this is the first place where and the reason why; else it is the one on their events
abbrev pub IsVerdict : List ℕ → Verdict → Type 0
IsVerdict bytes (Verdict.Run events commits) = IsTold bytes (EventsVerdict.Run events commits)
IsVerdict bytes (Verdict.Broken event rule) = IsTold bytes (EventsVerdict.Broken event rule)
IsVerdict bytes (Verdict.BadBytes at reason) = HasFault bytes (fault_at at reason)

-- the verdict on events as one on bytes
abbrev pub as_verdict : EventsVerdict → Verdict
as_verdict (EventsVerdict.Run events commits) = Verdict.Run events commits
as_verdict (EventsVerdict.Broken event rule) = Verdict.Broken event rule
