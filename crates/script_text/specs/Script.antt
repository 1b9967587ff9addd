-- Which values are scripts. Every rule here is an own rule.
use Rattle.std.specs.Prelude.{ℕ, Bool, List, ◌≡◌, ◌<◌, ◌≤◌, ◌^◌, ◌&&◌, ◌==◌, nat_lt, nat_le, IsTrue, length}
use Rattle.std.specs.List.{list_all, sum_by}
use Rattle.cxl_message.specs.declared.identifiers.Bytes64.{Bytes64}
use Rattle.cxl_message.specs.declared.events.Op.{Op}
use Rattle.cxl_message.specs.Names.{AreNames, is_name, names_fit}
use Rattle.cxl_message.specs.Opening.{IsOpening, opening_fits}
use Rattle.cxl_message.specs.Script.{ScriptValue}
use Rattle.cxl_message.specs.Setup.{IsWithinLimits}
use Rattle.script_text.specs.declared.lines.ScriptLine.{ScriptLine}
use Rattle.cxl_message.specs.declared.limits.TheConstants.{PLACES}
use Rattle.script_text.specs.declared.limits.TheConstants.{MAX_OPERATIONS, MAX_PICK, MAX_ROOM}

-- whether these are 64 bytes
abbrev pub are_line_bytes : Bytes64 → Bool
are_line_bytes bytes = (length bytes.0 == 64) && list_all (λ byte. nat_lt byte 256) bytes.0

-- whether the line of an operation is one of so many, its place one of eight, and its value one of 64 bits or of 64 bytes
abbrev pub op_fits : ℕ → Op → Bool
op_fits lines (Op.Load line) = nat_lt line.0 lines
op_fits lines (Op.Word line place value) = nat_lt line.0 lines && nat_lt place PLACES && nat_lt value (2 ^ 64)
op_fits lines (Op.Whole line bytes) = nat_lt line.0 lines && are_line_bytes bytes

-- how many operations there are in all streams
abbrev pub operation_count : List (List Op) → ℕ
operation_count operations = sum_by length operations

-- every number of a script is within its limits, only its streams have names, its opening is one, and each stream has its operations
pub record IsScript (s : ScriptValue) : Type 0 where
  pub setup : IsWithinLimits s.setup
  pub names : AreNames s.names
  pub named : IsTrue (names_fit (length s.setup.streams) s.names)
  pub room : (1 ≤ s.room) × (s.room ≤ MAX_ROOM)
  pub opening : IsOpening s.opening
  pub opening_lines : IsTrue (opening_fits s.setup.lines s.opening)
  pub opening_bytes : IsTrue (list_all (λ pair. are_line_bytes pair.1) s.opening)
  pub streams : length s.operations ≡ length s.setup.streams
  pub operations : IsTrue (list_all (λ ops. list_all (op_fits s.setup.lines) ops) s.operations)
  pub operation_count : operation_count s.operations ≤ MAX_OPERATIONS
  pub picks : IsTrue (list_all (λ pick. nat_le pick MAX_PICK) s.picks)

-- a line has a spelling: up to ten decimal digits for a number, a value of 64 bits, 64 bytes, a name that is one
abbrev pub IsSpelled : ScriptLine → Type 0
IsSpelled (ScriptLine.Open line bytes) = (line < 10 ^ 10) × IsTrue (are_line_bytes bytes)
IsSpelled (ScriptLine.Stream host) = host < 10 ^ 10
IsSpelled (ScriptLine.NamedStream host name) = (host < 10 ^ 10) × IsTrue (is_name name.items)
IsSpelled (ScriptLine.Load line) = line < 10 ^ 10
IsSpelled (ScriptLine.Word line place value) = (line < 10 ^ 10) × (place < 10 ^ 10) × (value < 2 ^ 64)
IsSpelled (ScriptLine.Whole line bytes) = (line < 10 ^ 10) × IsTrue (are_line_bytes bytes)
IsSpelled (ScriptLine.Pick pick) = pick < 10 ^ 10
