-- Where a text fails to be a script, and why: by the lines that may stand there, whoever reads them. Every rule here is an own rule.
use Rattle.std.specs.Prelude.{List, Some, [], codes, false, length, true, ℕ, ◌+◌, ◌++◌, ◌<◌, ◌^◌, ◌≡◌, ◌≢◌, ◌⊎◌, ◌∷◌}
use Rattle.cxl_message.specs.Script.{ScriptValue}
use Rattle.cxl_message.specs.Setup.{is_within}
use Rattle.script_text.specs.declared.lines.ScriptLine.{ScriptLine}
use Rattle.script_text.specs.declared.refusals.ScriptReason.{ScriptReason}
use Rattle.script_text.specs.Refusals.{line_refusal}
use Rattle.script_text.specs.Script.{IsScript, IsSpelled}
use Rattle.script_text.specs.Spelling.{body_lines, line_bytes, script_bytes, setting}
use Rattle.cxl_message.specs.declared.limits.TheConstants.{MAX_CREDITS, MAX_ENTRIES, MAX_HOSTS, MAX_LINES, MAX_TAGS, MAX_WAYS, MIN_CREDITS, MIN_TAGS}
use Rattle.script_text.specs.declared.limits.TheConstants.{MAX_ROOM}

-- a line that a script begins with: its word, and the limits of its number
pub record HeadForm : Type 0 where
  pub word : List ℕ
  pub least : ℕ
  pub most : ℕ

-- the line of a word, with its limits
abbrev pub form_of : List ℕ → ℕ → ℕ → HeadForm
form_of word least most = record { word = word; least = least; most = most }

-- the seven of them, in their order
abbrev pub head_forms : List HeadForm
head_forms =
    form_of (codes "hosts") 1 MAX_HOSTS ∷ form_of (codes "lines") 1 MAX_LINES ∷ form_of (codes "filter") 1 MAX_ENTRIES ∷ form_of (codes "ways") 1 MAX_WAYS
    ∷ form_of (codes "tags") MIN_TAGS MAX_TAGS ∷ form_of (codes "credits") MIN_CREDITS MAX_CREDITS ∷ form_of (codes "room") 1 MAX_ROOM ∷ []

-- where one of the seven is to stand, the text fails for this reason: it ends; it doesn't begin with such a line; the number is outside its limits
abbrev pub HeadFailure : HeadForm → List ℕ → ScriptReason → Type 0
HeadFailure form text ScriptReason.Missing = text ≡ []
HeadFailure form text ScriptReason.Spelling = (text ≢ []) × ((n : ℕ) (rest : List ℕ) → n < 10 ^ 10 → text ≢ setting form.word n ++ rest)
HeadFailure form text ScriptReason.Range = (n : ℕ) × (rest : List ℕ) × (n < 10 ^ 10) × (is_within form.least form.most n ≡ false) × (text ≡ setting form.word n ++ rest)
HeadFailure form text ScriptReason.Order = ⊥
HeadFailure form text ScriptReason.Many = ⊥

-- a text begins with a line of this form whose number is within its limits, and what follows it
pub record HeadLine (form : HeadForm) (text : List ℕ) : Type 0 where
  pub number : ℕ
  pub rest : List ℕ
  pub within : is_within form.least form.most number ≡ true
  pub begins : text ≡ setting form.word number ++ rest

-- the text fails at the line of this number, which is to be of the first of these forms, or after it at a later one
abbrev pub FailsInHead : List HeadForm → ℕ → List ℕ → ℕ → ScriptReason → Type 0
FailsInHead [] next text at reason = ⊥
FailsInHead (form ∷ forms) next text at reason =
    ((at ≡ next) × HeadFailure form text reason) ⊎ ((line : HeadLine form text) × FailsInHead forms (next + 1) line.rest at reason)

-- the text begins with a line that has a spelling and is refused for this reason after a script's lines
pub record RefusedLine (s : ScriptValue) (text : List ℕ) (reason : ScriptReason) : Type 0 where
  pub line : ScriptLine
  pub rest : List ℕ
  pub spelled : IsSpelled line
  pub begins : text ≡ line_bytes line ++ rest
  pub refused : line_refusal s line ≡ Some reason

-- a text after a script's lines fails for this reason: it doesn't begin with a line of a form that is allowed there; or it does, and that line is refused
abbrev pub LineFailure : ScriptValue → List ℕ → ScriptReason → Type 0
LineFailure s text ScriptReason.Spelling =
    (text ≢ []) × ((line : ScriptLine) (rest : List ℕ) → IsSpelled line → text ≡ line_bytes line ++ rest → line_refusal s line ≡ Some ScriptReason.Spelling)
LineFailure s text ScriptReason.Range = RefusedLine s text ScriptReason.Range
LineFailure s text ScriptReason.Order = RefusedLine s text ScriptReason.Order
LineFailure s text ScriptReason.Many = RefusedLine s text ScriptReason.Many
LineFailure s text ScriptReason.Missing = ⊥

-- the text begins as a script is spelled, and the line after that fails
pub record FailsInBody (text : List ℕ) (at : ℕ) (reason : ScriptReason) : Type 0 where
  pub script : ScriptValue
  pub rest : List ℕ
  pub is : IsScript script
  pub begins : text ≡ script_bytes script ++ rest
  pub line : at ≡ 8 + length (body_lines script)
  pub fails : LineFailure script rest reason

-- the text is no script: the line of this number, counted from 1, is the first that fails, for this reason
abbrev pub FailsAt : List ℕ → ℕ → ScriptReason → Type 0
FailsAt text at reason = FailsInHead head_forms 1 text at reason ⊎ FailsInBody text at reason

-- a text fails at one line at most, and for one reason
abbrev pub FailuresAreAlone : Type 0
FailuresAreAlone = (text : List ℕ) (at : ℕ) (reason : ScriptReason) → FailsAt text at reason → (other : ℕ) (cause : ScriptReason) → FailsAt text other cause → (other ≡ at) × (cause ≡ reason)

-- a text that fails is spelled by no script
abbrev pub FailuresAreNoScripts : Type 0
FailuresAreNoScripts = (text : List ℕ) (at : ℕ) (reason : ScriptReason) → FailsAt text at reason → (s : ScriptValue) → IsScript s → text ≢ script_bytes s
