-- The texts of refusals. Every rule here is an own rule.
use Rattle.std.specs.Prelude.{ℕ, List, [], ◌∷◌, ◌++◌, codes, decimal}
use Rattle.cxl_codec.specs.Names.{name_of}
use Rattle.cxl_message.specs.declared.states.RuleNo.{RuleNo}
use Rattle.script_text.specs.declared.refusals.ScriptReason.{ScriptReason}
use Rattle.trace_stream.specs.declared.items.Reason.{Reason}

-- a line of text
abbrev pub line : List ℕ → List ℕ
line text = text ++ 10 ∷ []

-- the text of a failed read
abbrev pub read_fault_text : List ℕ
read_fault_text = line (codes "read fault")

-- the text of what isn't built
abbrev pub not_built_text : List ℕ
not_built_text = line (codes "not built")

-- the text of words that are no form of the command line
abbrev pub usage_text : List ℕ
usage_text = line (codes "usage: cxlmem drive | check | view | load N | run")

-- the text of too many bytes
abbrev pub too_long_text : List ℕ
too_long_text = line (codes "too long")

-- the word of a reason
abbrev pub reason_word : ScriptReason → List ℕ
reason_word ScriptReason.Spelling = codes "spelling"
reason_word ScriptReason.Range = codes "range"
reason_word ScriptReason.Order = codes "order"
reason_word ScriptReason.Many = codes "many"
reason_word ScriptReason.Missing = codes "missing"

-- the text of an input that is no script: its first line that fails, and why
abbrev pub bad_script_text : ℕ → ScriptReason → List ℕ
bad_script_text at reason = line (codes "bad script: line " ++ decimal at ++ codes ": " ++ reason_word reason)

-- the words of a reason
abbrev pub fault_words : Reason → List ℕ
fault_words Reason.Short = codes "short"
fault_words Reason.Kind = codes "kind"
fault_words (Reason.Field field) = codes "field " ++ name_of field
fault_words Reason.Name = codes "name"
fault_words Reason.Opening = codes "opening"
fault_words Reason.Count = codes "count"
fault_words Reason.Trailing = codes "trailing"

-- the text of an input that is no trace: its first byte that fails, and why
abbrev pub bad_trace_text : ℕ → Reason → List ℕ
bad_trace_text at reason = line (codes "bad trace: byte " ++ decimal at ++ codes ": " ++ fault_words reason)

-- the name of a rule
abbrev pub rule_name : RuleNo → List ℕ
rule_name RuleNo.P0 = codes "P0"
rule_name RuleNo.K0 = codes "K0"
rule_name RuleNo.S0 = codes "S0"
rule_name RuleNo.H1 = codes "H1"
rule_name RuleNo.H2 = codes "H2"
rule_name RuleNo.H3 = codes "H3"
rule_name RuleNo.H4 = codes "H4"
rule_name RuleNo.H5 = codes "H5"
rule_name RuleNo.H6 = codes "H6"
rule_name RuleNo.H7 = codes "H7"
rule_name RuleNo.H8 = codes "H8"
rule_name RuleNo.H9 = codes "H9"
rule_name RuleNo.H10 = codes "H10"
rule_name RuleNo.V1 = codes "V1"
rule_name RuleNo.V2 = codes "V2"
rule_name RuleNo.V3 = codes "V3"
rule_name RuleNo.V4 = codes "V4"
rule_name RuleNo.V5 = codes "V5"
rule_name RuleNo.V6 = codes "V6"
rule_name RuleNo.V7 = codes "V7"
rule_name RuleNo.V8 = codes "V8"
rule_name RuleNo.V9 = codes "V9"

-- the text of a trace that is no run: its first event that isn't allowed, and the rule that it breaks
abbrev pub not_a_run_text : ℕ → RuleNo → List ℕ
not_a_run_text event rule = line (codes "not a run: event " ++ decimal event ++ codes ": rule " ++ rule_name rule)

-- the text of a run: how many events and commits it has
abbrev pub run_text : ℕ → ℕ → List ℕ
run_text events commits = line (codes "run: " ++ decimal events ++ codes " events, " ++ decimal commits ++ codes " commits")
