-- What `drive` reads and writes. Every rule here is an own rule.
use Rattle.std.specs.Prelude.{IfSome, List, Option, length, ℕ, ◌≡◌, ◌≤◌, ◌<◌}
use Rattle.cxl_message.specs.Script.{ScriptValue}
use Rattle.coherence_model.specs.Driven.{driven_trace, event_bound}
use Rattle.coherent_runs.specs.Coherent.{IsCoherent}
use Rattle.commit_laws.specs.Commits.{CommitsEach}
use Rattle.script_text.specs.declared.refusals.ScriptReason.{ScriptReason}
use Rattle.script_text.specs.Failures.{FailsAt}
use Rattle.script_text.specs.Script.{IsScript}
use Rattle.script_text.specs.Spelling.{script_bytes}
use Rattle.step_driver.specs.Outputs.{WritesDriven, driven_bytes}
use Rattle.cxlmem.specs.Outcomes.{WritesFront, WritesText}
use Rattle.cxlmem.specs.Texts.{bad_script_text}

-- the most bytes that a script has
abbrev pub script_limit : ℕ
script_limit = 67108864

-- the input is the one spelling of this script, and within the limit
pub record Spells (input : List ℕ) (script : ScriptValue) : Type 0 where
  pub sound : IsScript script
  pub spelled : input ≡ script_bytes script
  pub within : length input ≤ script_limit

-- the input is a script; its driven trace went to the sink, and nothing else, and a reader reads it as such; in it each operation of the script is committed once, each stream's in its order, and nothing else is; it has at most 108 * H - 3 events for each operation, with H hosts; it is a run whose commits form a legal history, in which a writable copy is always the only copy, and an allowed next step stands wherever something is pending
pub record Drives (input : List ℕ) (old new : Option (List ℕ)) : Type 0 where
  pub script : ScriptValue
  pub spells : Spells input script
  pub trace : WritesDriven old new script
  pub commits : CommitsEach script (driven_trace script)
  pub short : length (driven_trace script) ≤ event_bound script
  pub coherent : IsCoherent script.setup script.opening (driven_trace script)

-- the input is a script, and the first bytes of its trace went to the sink, and nothing else
pub record DrivesFront (input : List ℕ) (old new : Option (List ℕ)) : Type 0 where
  pub script : ScriptValue
  pub spells : Spells input script
  pub front : WritesFront old new (driven_bytes script)

-- the input has more bytes than a script may have
abbrev pub IsTooLong : List ℕ → Type 0
IsTooLong input = script_limit < length input

-- the input is within the limit and no script: this line is the first that fails, for this reason
pub record IsBadScript (input : List ℕ) (line : ℕ) (reason : ScriptReason) : Type 0 where
  pub within : length input ≤ script_limit
  pub fails : FailsAt input line reason

-- a line and a reason went to the sink as a text; where the source tells its input, that line is the first that fails, for that reason
pub record RefusesScript (input : Option (List ℕ)) (old new : Option (List ℕ)) (before now : ℕ) : Type 0 where
  pub line : ℕ
  pub reason : ScriptReason
  pub text : WritesText old new before now (bad_script_text line reason)
  pub fails : IfSome input (λ bytes. IsBadScript bytes line reason)
