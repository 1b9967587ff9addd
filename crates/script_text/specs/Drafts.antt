-- What a draft says, and what a line adds to it.
use Rattle.std.specs.Prelude.{ℕ, ◌≡◌, Some, None, map}
use Rattle.cxl_message.specs.Script.{ScriptValue}
use Rattle.script_text.specs.declared.drafts.Draft.{Draft}
use Rattle.script_text.specs.declared.lines.ScriptLine.{ScriptLine}
use Rattle.script_text.specs.declared.refusals.ScriptRefusal.{ScriptRefusal}
use Rattle.script_text.specs.Script.{operation_count}
use Rattle.script_text.specs.Refusals.{IfBad, line_refusal, with_line}

-- the script of the lines that were read
abbrev pub script_of : Draft → ScriptValue
script_of d = record { setup = d.setup; names = d.names; room = d.room; opening = d.opening; operations = map (λ ops. ops.items) d.operations.items; picks = d.picks.items }

-- the draft knows how many operations it has
abbrev pub IsCounted : Draft → Type 0
IsCounted d = d.count ≡ operation_count (script_of d).operations

-- the new draft is the old one with a line that may stand there
pub record AddsLine (line : ScriptLine) (old new : Draft) : Type 0 where
  pub allowed : line_refusal (script_of old) line ≡ None
  pub script : script_of new ≡ with_line (script_of old) line
  pub counted : IsCounted new

-- the line of this number may not stand after a draft's lines, and this is why
abbrev pub IsRefusedAt : ℕ → ScriptLine → Draft → ScriptRefusal → Type 0
IsRefusedAt number line d refusal = IfBad refusal (λ at reason. (at ≡ number) × (line_refusal (script_of d) line ≡ Some reason))
