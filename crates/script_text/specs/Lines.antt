-- Reading the lines after the seventh, as the parser does.
use Rattle.std.specs.Prelude.{ℕ, List, Option, Some, None, codes, if◌then◌else◌}
use Rattle.std.specs.Str.{bytes_eq}
use Rattle.std.specs.Int.{w64, from_be_bytes}
use Rattle.cxl_message.specs.declared.identifiers.Bytes64.{Bytes64}
use Rattle.script_text.specs.declared.lines.ScriptLine.{ScriptLine}
use Rattle.script_text.specs.Words.{◌>>=◌, parts_at, number_in, name_in, just_bytes_in}

-- a number and 64 bytes
unfoldable pub line_and_bytes_in : List ℕ → Option (ℕ × Bytes64)
line_and_bytes_in text = do
  parts ← parts_at 32 text
  line ← number_in parts.0
  bytes ← just_bytes_in 64 parts.1
  Some (line, record { 0 = bytes })

-- two numbers and a value of 64 bits
unfoldable pub word_in : List ℕ → Option ScriptLine
word_in text = do
  parts ← parts_at 32 text
  words ← parts_at 32 parts.1
  line ← number_in parts.0
  place ← number_in words.0
  bytes ← just_bytes_in 8 words.1
  Some (ScriptLine.Word line place (from_be_bytes w64 bytes))

-- a host and a name, from their words
abbrev pub named_stream_in : List ℕ → List ℕ → Option ScriptLine
named_stream_in first second = do
  host ← number_in first
  name ← name_in second
  Some (ScriptLine.NamedStream host (record { items = name }))

-- a host alone, where the text is one word, and else a host and a name
abbrev pub stream_of_parts : List ℕ → Option (List ℕ × List ℕ) → Option ScriptLine
stream_of_parts text None = number_in text >>= λ host. Some (ScriptLine.Stream host)
stream_of_parts text (Some parts) = named_stream_in parts.0 parts.1

-- a stream's host, and its name if one follows
unfoldable pub stream_in : List ℕ → Option ScriptLine
stream_in text = stream_of_parts text (parts_at 32 text)

-- what follows a line's first word
unfoldable pub line_of_word : List ℕ → List ℕ → Option ScriptLine
line_of_word word text =
    if bytes_eq word (codes "open") then (line_and_bytes_in text >>= λ pair. Some (ScriptLine.Open pair.0 pair.1))
    else (if bytes_eq word (codes "stream") then stream_in text
    else (if bytes_eq word (codes "load") then (number_in text >>= λ line. Some (ScriptLine.Load line))
    else (if bytes_eq word (codes "word") then word_in text
    else (if bytes_eq word (codes "whole") then (line_and_bytes_in text >>= λ pair. Some (ScriptLine.Whole pair.0 pair.1))
    else (if bytes_eq word (codes "pick") then (number_in text >>= λ pick. Some (ScriptLine.Pick pick))
    else None)))))

-- a line without its line feed
unfoldable pub line_in : List ℕ → Option ScriptLine
line_in text = parts_at 32 text >>= λ parts. line_of_word parts.0 parts.1

-- the first line, and what follows it
unfoldable pub first_line : List ℕ → Option (ScriptLine × List ℕ)
first_line text = do
  parts ← parts_at 10 text
  line ← line_in parts.0
  Some (line, parts.1)
