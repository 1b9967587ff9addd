-- What `check` reads and writes. Every rule here is an own rule.
use Rattle.std.specs.Prelude.{IfSome, List, Option, String, length, reverse, ℕ, ◌^◌, ◌<◌, ◌≤◌, ◌⊎◌}
use Rattle.std.specs.Io.KnownBytes.{Appends}
use Rattle.std.specs.declared.alloc.Global.{Global}
use Rattle.coherent_runs.specs.Coherent.{IsCoherent}
use Rattle.cxl_codec.specs.declared.versions.Version.{Version}
use Rattle.cxl_message.specs.Setup.{Configuration}
use Rattle.cxl_message.specs.declared.events.Event.{Event}
use Rattle.cxl_message.specs.declared.identifiers.Bytes64.{Bytes64}
use Rattle.cxl_message.specs.declared.identifiers.Line.{Line}
use Rattle.cxl_message.specs.declared.states.RuleNo.{RuleNo}
use Rattle.trace_check.specs.Verdicts.{IsVerdict}
use Rattle.trace_check.specs.declared.verdicts.Verdict.{Verdict}
use Rattle.trace_stream.specs.Runs.{IsTraceIn}
use Rattle.trace_stream.specs.declared.items.Reason.{Reason}
use Rattle.cxlmem.specs.CommandLine.{IsCheck, IsDrive}
use Rattle.cxlmem.specs.Drives.{IsTooLong}
use Rattle.cxlmem.specs.Outcomes.{WritesFront, WritesText}
use Rattle.cxlmem.specs.Texts.{bad_trace_text, not_a_run_text, run_text}

-- the most bytes of a trace that are read
abbrev pub trace_limit : ℕ
trace_limit = 2 ^ 40

-- the input has more bytes than are read
abbrev pub IsLongTrace : List ℕ → Type 0
IsLongTrace input = trace_limit < length input

-- the words are a command that reads, and the input has more bytes than it reads, where the source tells
abbrev pub IsOverLong : List (String Global) → Option (List ℕ) → Type 0
IsOverLong words input = (IsDrive words × IfSome input IsTooLong) ⊎ (IsCheck words × IfSome input IsLongTrace)

-- the input is within the limit, and this is the verdict on it
pub record IsChecked (input : List ℕ) (verdict : Verdict) : Type 0 where
  pub within : length input ≤ trace_limit
  pub told : IsVerdict input verdict

-- the input is a trace, and its events are a run whose commits form a legal history, in which a writable copy is always the only copy, and an allowed next step stands wherever something is pending
pub record IsCoherentTrace (input : List ℕ) : Type 0 where
  pub version : Version
  pub setup : Configuration
  pub names : List (ℕ × List ℕ)
  pub opening : List (Line × Bytes64)
  pub events : List Event
  pub trace : IsTraceIn input version setup names opening events
  pub coherent : IsCoherent setup opening (reverse events)

-- the input is a coherent trace, and its verdict a run with these numbers
pub record IsGoodTrace (input : List ℕ) (events commits : ℕ) : Type 0 where
  pub checked : IsChecked input (Verdict.Run events commits)
  pub coherent : IsCoherentTrace input

-- the text of a run went to the sink, and nothing else; where the source tells its input, that is a good trace with these numbers
pub record Checks (input : Option (List ℕ)) (old new : Option (List ℕ)) : Type 0 where
  pub events : ℕ
  pub commits : ℕ
  pub text : Appends old new (run_text events commits)
  pub trace : IfSome input (λ bytes. IsGoodTrace bytes events commits)

-- the same, of the first bytes of that text
pub record ChecksFront (input : Option (List ℕ)) (old new : Option (List ℕ)) : Type 0 where
  pub events : ℕ
  pub commits : ℕ
  pub text : WritesFront old new (run_text events commits)
  pub trace : IfSome input (λ bytes. IsGoodTrace bytes events commits)

-- a place and a reason went to the sink as a text; where the source tells its input, that is no trace, and fails there first, for that reason
pub record RefusesTrace (input : Option (List ℕ)) (old new : Option (List ℕ)) (before now : ℕ) : Type 0 where
  pub at : ℕ
  pub reason : Reason
  pub text : WritesText old new before now (bad_trace_text at reason)
  pub fails : IfSome input (λ bytes. IsChecked bytes (Verdict.BadBytes at reason))

-- an event and a rule went to the sink as a text; where the source tells its input, that is a trace whose first event that isn't allowed is this one, and breaks that rule
pub record RefusesRun (input : Option (List ℕ)) (old new : Option (List ℕ)) (before now : ℕ) : Type 0 where
  pub event : ℕ
  pub rule : RuleNo
  pub text : WritesText old new before now (not_a_run_text event rule)
  pub breaks : IfSome input (λ bytes. IsChecked bytes (Verdict.Broken event rule))
