-- Why a line of a script is refused. Every rule here is an own rule.
use Rattle.std.specs.Prelude.{ℕ, Bool, List, [], ◌∷◌, ◌++◌, ◌≡◌, ◌&&◌, ◌==◌, not, nat_lt, nat_le, Option, Some, None, Result, Ok, Err, if◌then◌else◌, length}
use Rattle.cxl_message.specs.declared.events.Op.{Op}
use Rattle.cxl_message.specs.Codes.{bytes_eq}
use Rattle.cxl_message.specs.Opening.{is_after_last, zero_bytes}
use Rattle.cxl_message.specs.Script.{ScriptValue}
use Rattle.script_text.specs.declared.lines.ScriptLine.{ScriptLine}
use Rattle.script_text.specs.declared.refusals.ScriptReason.{ScriptReason}
use Rattle.script_text.specs.declared.refusals.ScriptRefusal.{ScriptRefusal}
use Rattle.script_text.specs.Script.{operation_count}
use Rattle.cxl_message.specs.declared.limits.TheConstants.{MAX_STREAMS, PLACES}
use Rattle.script_text.specs.declared.limits.TheConstants.{MAX_OPERATIONS, MAX_PICK}

-- what holds of a refusal for a line, memory aside
abbrev pub IfBad : ScriptRefusal → (ℕ → ScriptReason → Type 0) → Type 0
IfBad (ScriptRefusal.Bad line reason) P = P line reason
IfBad ScriptRefusal.Memory P = Unit {0}

-- what was answered, seen by view, is what reading gives, unless memory ran out
abbrev pub Gives : {X Y : Type 0} → (X → Y) → Result X ScriptRefusal → Result Y ScriptRefusal → Type 0
Gives view (Ok x) read = read ≡ Ok (view x)
Gives view (Err refusal) read = IfBad refusal (λ line reason. read ≡ Err (ScriptRefusal.Bad line reason))

-- whether an opening can stand after a script's lines: neither a stream nor a pick stands there
abbrev pub takes_openings : ScriptValue → Bool
takes_openings s = (length s.setup.streams == 0) && (length s.picks == 0)

-- whether an operation can: a stream stands there, and no pick
abbrev pub takes_operations : ScriptValue → Bool
takes_operations s = not (length s.setup.streams == 0) && (length s.picks == 0)

-- why an operation's line is refused after a script's lines, if it is
abbrev pub op_refusal : ScriptValue → Bool → Option ScriptReason
op_refusal s fits =
    if not (takes_operations s) then Some ScriptReason.Spelling
    else (if not fits then Some ScriptReason.Range
    else (if not (nat_lt (operation_count s.operations) MAX_OPERATIONS) then Some ScriptReason.Many else None))

-- why a stream's line is refused after a script's lines, if it is
abbrev pub stream_refusal : ScriptValue → ℕ → Option ScriptReason
stream_refusal s host =
    if not (length s.picks == 0) then Some ScriptReason.Spelling
    else (if not (nat_lt host s.setup.hosts) then Some ScriptReason.Range
    else (if not (nat_lt (length s.setup.streams) MAX_STREAMS) then Some ScriptReason.Many else None))

-- why a line is refused after a script's lines, if it is: the first of spelling, range, order and many
abbrev pub line_refusal : ScriptValue → ScriptLine → Option ScriptReason
line_refusal s (ScriptLine.Open line bytes) =
    if not (takes_openings s) then Some ScriptReason.Spelling
    else (if not (nat_lt line s.setup.lines) then Some ScriptReason.Range
    else (if not (is_after_last s.opening line && not (bytes_eq bytes zero_bytes)) then Some ScriptReason.Order else None))
line_refusal s (ScriptLine.Stream host) = stream_refusal s host
line_refusal s (ScriptLine.NamedStream host name) = stream_refusal s host
line_refusal s (ScriptLine.Load line) = op_refusal s (nat_lt line s.setup.lines)
line_refusal s (ScriptLine.Word line place value) = op_refusal s (nat_lt line s.setup.lines && nat_lt place PLACES)
line_refusal s (ScriptLine.Whole line bytes) = op_refusal s (nat_lt line s.setup.lines)
line_refusal s (ScriptLine.Pick pick) = if nat_le pick MAX_PICK then None else Some ScriptReason.Range

-- the streams' operations with one more, of the last stream
abbrev pub with_op : List (List Op) → Op → List (List Op)
with_op [] op = []
with_op (ops ∷ []) op = (ops ++ op ∷ []) ∷ []
with_op (ops ∷ next ∷ more) op = ops ∷ with_op (next ∷ more) op

-- the script with a stream more, which has no operations, and with these names
abbrev pub with_stream : ScriptValue → ℕ → List (ℕ × List ℕ) → ScriptValue
with_stream s host names = record s { setup = record s.setup { streams = s.setup.streams ++ host ∷ [] }; names = names; operations = s.operations ++ [] ∷ [] }

-- the script with this line after its own; a name is that of the line's stream
abbrev pub with_line : ScriptValue → ScriptLine → ScriptValue
with_line s (ScriptLine.Open line bytes) = record s { opening = s.opening ++ (record { 0 = line }, bytes) ∷ [] }
with_line s (ScriptLine.Stream host) = with_stream s host s.names
with_line s (ScriptLine.NamedStream host name) = with_stream s host (s.names ++ (length s.setup.streams, name.items) ∷ [])
with_line s (ScriptLine.Load line) = record s { operations = with_op s.operations (Op.Load (record { 0 = line })) }
with_line s (ScriptLine.Word line place value) = record s { operations = with_op s.operations (Op.Word (record { 0 = line }) place value) }
with_line s (ScriptLine.Whole line bytes) = record s { operations = with_op s.operations (Op.Whole (record { 0 = line }) bytes) }
with_line s (ScriptLine.Pick pick) = record s { picks = s.picks ++ pick ∷ [] }
