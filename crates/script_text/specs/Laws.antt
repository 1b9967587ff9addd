-- Laws of scripts and texts. Every rule here is an own rule.
use Rattle.std.specs.Prelude.{List, ℕ, ◌≡◌}
use Rattle.cxl_message.specs.Script.{ScriptValue}
use Rattle.script_text.specs.Script.{IsScript}
use Rattle.script_text.specs.Spelling.{script_bytes}

-- a text is spelled by one script at most
abbrev pub TextsSpellOneScript : Type 0
TextsSpellOneScript = (text : List ℕ) (s other : ScriptValue) → IsScript s → IsScript other → text ≡ script_bytes s → text ≡ script_bytes other → s ≡ other
