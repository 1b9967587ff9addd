-- How a script is spelled: lines of ASCII, each ended by one line feed, with one space between words. Every rule here is an own rule.
use Rattle.std.specs.Prelude.{ℕ, false, List, [], ◌∷◌, ◌++◌, ◌+◌, ◌/◌, ◌%◌, Option, Some, None, map, codes}
use Rattle.std.specs.List.{flat_map}
use Rattle.std.specs.Fmt.{decimal, digit_glyph}
use Rattle.std.specs.Int.{w64, to_be_bytes}
use Rattle.cxl_message.specs.declared.identifiers.Line.{Line}
use Rattle.cxl_message.specs.declared.identifiers.Bytes64.{Bytes64}
use Rattle.cxl_message.specs.declared.events.Op.{Op}
use Rattle.cxl_message.specs.Names.{name_of}
use Rattle.cxl_message.specs.Script.{ScriptValue}
use Rattle.script_text.specs.declared.lines.ScriptLine.{ScriptLine}

-- a byte as two hexadecimal digits in lower case, the high one first
abbrev pub hex_byte : ℕ → List ℕ
hex_byte byte = digit_glyph false (byte / 16) ∷ digit_glyph false (byte % 16) ∷ []

-- bytes as hexadecimal digits
abbrev pub hex : List ℕ → List ℕ
hex bytes = flat_map hex_byte bytes

-- a line of one word and one number
abbrev pub setting : List ℕ → ℕ → List ℕ
setting word n = word ++ 32 ∷ decimal n ++ 10 ∷ []

-- the seven words and numbers that a script begins with
abbrev pub settings : ScriptValue → List (List ℕ × ℕ)
settings s =
    (codes "hosts", s.setup.hosts) ∷ (codes "lines", s.setup.lines) ∷ (codes "filter", s.setup.entries) ∷ (codes "ways", s.setup.ways)
    ∷ (codes "tags", s.setup.tags) ∷ (codes "credits", s.setup.credits) ∷ (codes "room", s.room) ∷ []

-- the seven lines that a script begins with
abbrev pub head_bytes : ScriptValue → List ℕ
head_bytes s = flat_map (λ pair. setting pair.0 pair.1) (settings s)

-- a later line, without its line feed
abbrev pub line_text : ScriptLine → List ℕ
line_text (ScriptLine.Open line bytes) = codes "open " ++ decimal line ++ 32 ∷ hex bytes.0
line_text (ScriptLine.Stream host) = codes "stream " ++ decimal host
line_text (ScriptLine.NamedStream host name) = codes "stream " ++ decimal host ++ 32 ∷ name.items
line_text (ScriptLine.Load line) = codes "load " ++ decimal line
line_text (ScriptLine.Word line place value) = codes "word " ++ decimal line ++ 32 ∷ decimal place ++ 32 ∷ hex (to_be_bytes w64 value)
line_text (ScriptLine.Whole line bytes) = codes "whole " ++ decimal line ++ 32 ∷ hex bytes.0
line_text (ScriptLine.Pick pick) = codes "pick " ++ decimal pick

-- a later line
abbrev pub line_bytes : ScriptLine → List ℕ
line_bytes line = line_text line ++ 10 ∷ []

-- the line of an opening
abbrev pub open_line : Line × Bytes64 → ScriptLine
open_line pair = ScriptLine.Open pair.0.0 pair.1

-- the line of an operation
abbrev pub op_line : Op → ScriptLine
op_line (Op.Load line) = ScriptLine.Load line.0
op_line (Op.Word line place value) = ScriptLine.Word line.0 place value
op_line (Op.Whole line bytes) = ScriptLine.Whole line.0 bytes

-- the line of a stream: its host, and its name if it has one
abbrev pub stream_line : ℕ → Option (List ℕ) → ScriptLine
stream_line host None = ScriptLine.Stream host
stream_line host (Some name) = ScriptLine.NamedStream host (record { items = name })

-- the lines of streams numbered from this one on: each one's host and name, then its operations
abbrev pub stream_lines : List (ℕ × List ℕ) → ℕ → List ℕ → List (List Op) → List ScriptLine
stream_lines names number [] operations = []
stream_lines names number (host ∷ hosts) [] = []
stream_lines names number (host ∷ hosts) (ops ∷ operations) =
    stream_line host (name_of names number) ∷ map op_line ops ++ stream_lines names (number + 1) hosts operations

-- the lines after the seventh: openings, streams and picks
abbrev pub body_lines : ScriptValue → List ScriptLine
body_lines s = map open_line s.opening ++ stream_lines s.names 0 s.setup.streams s.operations ++ map (λ pick. ScriptLine.Pick pick) s.picks

-- the one spelling of a script
unfoldable pub script_bytes : ScriptValue → List ℕ
script_bytes s = head_bytes s ++ flat_map line_bytes (body_lines s)
